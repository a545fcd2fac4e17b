-- No message waits at the end of an example that ends with a drain.
use Rattle.std.proofs.Common.{◌≡◌, refl, ap, ◌∙◌, [], ◌∷◌}
use Rattle.acc_topology.specs.Sets.{numbers}
use Rattle.acc_run_laws.specs.Schedules.{waiting}
use Rattle.acc_examples.specs.OneUpdate as one_update
use Rattle.acc_examples.specs.LostVote as lost_vote
use Rattle.acc_examples.specs.NoLostVote as no_lost_vote
use Rattle.acc_examples.specs.ConflictHeardFirst as conflict_heard_first
use Rattle.acc_examples.specs.ReadsDoNotConflict as reads_do_not_conflict
use Rattle.acc_examples.specs.FourOfFive as four_of_five
use Rattle.acc_examples.specs.SlowNeedsMajority as slow_needs_majority
use Rattle.acc_examples.specs.PrintedOrder as printed_order
use Rattle.acc_examples.specs.RecoveryAfterRestart as recovery_after_restart
use Rattle.acc_examples.specs.OneUnchangedOfTwo as one_unchanged_of_two
use Rattle.acc_examples.specs.SupersededByAccept as superseded_by_accept
use Rattle.acc_examples.specs.BlockedRecovery as blocked_recovery
use Rattle.acc_examples.specs.NackWithOwnBallot as nack_with_own_ballot
use Rattle.acc_examples.specs.TransferBetweenShards as transfer_between_shards
use Rattle.acc_examples.proofs.TransferStates.{after_two, after_three}
use Rattle.acc_examples.proofs.Computed.{transfer_between_shards-parts}

pub one_update-waits : waiting one_update.items [] ≡ []
unfolding numbers
one_update-waits = refl

pub lost_vote-waits : waiting lost_vote.items (11 ∷ []) ≡ []
unfolding numbers
lost_vote-waits = refl

pub no_lost_vote-waits : waiting no_lost_vote.items [] ≡ []
unfolding numbers
no_lost_vote-waits = refl

pub conflict_heard_first-waits : waiting conflict_heard_first.items [] ≡ []
unfolding numbers
conflict_heard_first-waits = refl

pub reads_do_not_conflict-waits : waiting reads_do_not_conflict.items [] ≡ []
unfolding numbers
reads_do_not_conflict-waits = refl

pub four_of_five-waits : waiting four_of_five.items (4 ∷ []) ≡ []
unfolding numbers
four_of_five-waits = refl

pub slow_needs_majority-waits : waiting slow_needs_majority.items [] ≡ []
unfolding numbers
slow_needs_majority-waits = refl

pub printed_order-waits : waiting printed_order.items [] ≡ []
unfolding numbers
printed_order-waits = refl

pub recovery_after_restart-waits : waiting recovery_after_restart.items [] ≡ []
unfolding numbers
recovery_after_restart-waits = refl

pub one_unchanged_of_two-waits : waiting one_unchanged_of_two.items [] ≡ []
unfolding numbers
one_unchanged_of_two-waits = refl

pub superseded_by_accept-waits : waiting superseded_by_accept.items [] ≡ []
unfolding numbers
superseded_by_accept-waits = refl

pub blocked_recovery-waits : waiting blocked_recovery.items (5 ∷ []) ≡ []
unfolding numbers
blocked_recovery-waits = refl

pub nack_with_own_ballot-waits : waiting nack_with_own_ballot.items [] ≡ []
unfolding numbers
nack_with_own_ballot-waits = refl

last : waiting (transfer_between_shards.round 6 3 after_three) [] ≡ []
unfolding numbers transfer_between_shards.round after_two after_three
last = refl

pub transfer_between_shards-waits : waiting transfer_between_shards.items [] ≡ []
transfer_between_shards-waits = ap (λ items. waiting items []) transfer_between_shards-parts ∙ last
