-- The worked examples, by computation.
use Rattle.std.proofs.Common.{◌≡◌, refl, ap, ◌∙◌, []}
use Rattle.std.specs.Prelude.{Some, map}
use Rattle.acc_topology.specs.Sets.{numbers}
use Rattle.acc_message.specs.Items.{notes_of}
use Rattle.acc_txn.specs.Serial.{serial}
use Rattle.acc_safety.specs.Decisions.{Answered, first_outcomes, body_of}
use Rattle.acc_run_laws.specs.Schedules.{skipped_of}
use Rattle.acc_examples.specs.OneUpdate as one_update
use Rattle.acc_examples.specs.LostVote as lost_vote
use Rattle.acc_examples.specs.NoLostVote as no_lost_vote
use Rattle.acc_examples.specs.ConflictHeardFirst as conflict_heard_first
use Rattle.acc_examples.specs.ReadsDoNotConflict as reads_do_not_conflict
use Rattle.acc_examples.specs.FourOfFive as four_of_five
use Rattle.acc_examples.specs.SlowNeedsMajority as slow_needs_majority
use Rattle.acc_examples.specs.PrintedOrder as printed_order
use Rattle.acc_examples.specs.SilentUntilApplied as silent_until_applied
use Rattle.acc_examples.specs.RecoveryAfterRestart as recovery_after_restart
use Rattle.acc_examples.specs.OneUnchangedOfTwo as one_unchanged_of_two
use Rattle.acc_examples.specs.SupersededByAccept as superseded_by_accept
use Rattle.acc_examples.specs.BlockedRecovery as blocked_recovery
use Rattle.acc_examples.specs.NackWithOwnBallot as nack_with_own_ballot
use Rattle.acc_examples.specs.TransferBetweenShards as transfer_between_shards
use Rattle.acc_examples.proofs.TransferStates.{after_two, after_three}

pub one_update-notes : notes_of one_update.items ≡ one_update.notes
unfolding numbers
one_update-notes = refl

pub one_update-serial : serial one_update.serially ≡ one_update.replies
one_update-serial = refl

pub lost_vote-notes : notes_of lost_vote.items ≡ lost_vote.notes
unfolding numbers
lost_vote-notes = refl

pub lost_vote-serial : serial lost_vote.serially ≡ lost_vote.replies
lost_vote-serial = refl

pub no_lost_vote-notes : notes_of no_lost_vote.items ≡ no_lost_vote.notes
unfolding numbers
no_lost_vote-notes = refl

pub no_lost_vote-serial : serial no_lost_vote.serially ≡ no_lost_vote.replies
no_lost_vote-serial = refl

pub conflict_heard_first-notes : notes_of conflict_heard_first.items ≡ conflict_heard_first.notes
unfolding numbers
conflict_heard_first-notes = refl

pub conflict_heard_first-serial : serial conflict_heard_first.serially ≡ conflict_heard_first.replies
conflict_heard_first-serial = refl

pub reads_do_not_conflict-notes : notes_of reads_do_not_conflict.items ≡ reads_do_not_conflict.notes
unfolding numbers
reads_do_not_conflict-notes = refl

pub reads_do_not_conflict-serial : serial reads_do_not_conflict.serially ≡ reads_do_not_conflict.replies
reads_do_not_conflict-serial = refl

pub four_of_five-notes : notes_of four_of_five.items ≡ four_of_five.notes
unfolding numbers
four_of_five-notes = refl

pub four_of_five-serial : serial four_of_five.serially ≡ four_of_five.replies
four_of_five-serial = refl

pub slow_needs_majority-notes : notes_of slow_needs_majority.items ≡ slow_needs_majority.notes
unfolding numbers
slow_needs_majority-notes = refl

pub slow_needs_majority-serial : serial slow_needs_majority.serially ≡ slow_needs_majority.replies
slow_needs_majority-serial = refl

pub slow_needs_majority-skips : skipped_of slow_needs_majority.items ≡ slow_needs_majority.skips
unfolding numbers
slow_needs_majority-skips = refl

pub printed_order-notes : notes_of printed_order.items ≡ printed_order.notes
unfolding numbers
printed_order-notes = refl

pub printed_order-serial : serial printed_order.serially ≡ printed_order.replies
printed_order-serial = refl

pub silent_until_applied-notes : notes_of silent_until_applied.items ≡ silent_until_applied.notes
unfolding numbers
silent_until_applied-notes = refl

pub silent_until_applied-serial : serial silent_until_applied.serially ≡ silent_until_applied.replies
silent_until_applied-serial = refl

pub recovery_after_restart-notes : notes_of recovery_after_restart.items ≡ recovery_after_restart.notes
unfolding numbers
recovery_after_restart-notes = refl

pub recovery_after_restart-serial : serial recovery_after_restart.serially ≡ recovery_after_restart.replies
recovery_after_restart-serial = refl

pub one_unchanged_of_two-notes : notes_of one_unchanged_of_two.items ≡ one_unchanged_of_two.notes
unfolding numbers
one_unchanged_of_two-notes = refl

pub one_unchanged_of_two-serial : serial one_unchanged_of_two.serially ≡ one_unchanged_of_two.replies
one_unchanged_of_two-serial = refl

pub superseded_by_accept-notes : notes_of superseded_by_accept.items ≡ superseded_by_accept.notes
unfolding numbers
superseded_by_accept-notes = refl

pub superseded_by_accept-serial : serial superseded_by_accept.serially ≡ superseded_by_accept.replies
superseded_by_accept-serial = refl

pub blocked_recovery-notes : notes_of blocked_recovery.items ≡ blocked_recovery.notes
unfolding numbers
blocked_recovery-notes = refl

pub blocked_recovery-serial : serial blocked_recovery.serially ≡ blocked_recovery.replies
blocked_recovery-serial = refl

pub nack_with_own_ballot-notes : notes_of nack_with_own_ballot.items ≡ nack_with_own_ballot.notes
unfolding numbers
nack_with_own_ballot-notes = refl

pub nack_with_own_ballot-serial : serial nack_with_own_ballot.serially ≡ nack_with_own_ballot.replies
nack_with_own_ballot-serial = refl

-- the transfer is computed in parts

first_two : transfer_between_shards.round 2 1 (transfer_between_shards.round 0 0 []) ≡ after_two
unfolding numbers transfer_between_shards.round after_two
first_two = refl

third : transfer_between_shards.round 4 2 after_two ≡ after_three
unfolding numbers transfer_between_shards.round after_two after_three
third = refl

last : notes_of (transfer_between_shards.round 6 3 after_three) ≡ transfer_between_shards.notes
unfolding numbers transfer_between_shards.round after_two after_three
last = refl

pub transfer_between_shards-parts : transfer_between_shards.items ≡ transfer_between_shards.round 6 3 after_three
transfer_between_shards-parts =
    ap (λ items. transfer_between_shards.round 6 3 (transfer_between_shards.round 4 2 items)) first_two
    ∙ ap (transfer_between_shards.round 6 3) third

pub transfer_between_shards-notes : notes_of transfer_between_shards.items ≡ transfer_between_shards.notes
transfer_between_shards-notes = ap notes_of transfer_between_shards-parts ∙ last

pub transfer_between_shards-serial : serial transfer_between_shards.serially ≡ transfer_between_shards.replies
transfer_between_shards-serial = refl

pub one_update-outcomes : map (λ (a : Answered). a.reply) (first_outcomes one_update.notes) ≡ one_update.replies
one_update-outcomes = refl

pub one_update-bodies : map (λ (a : Answered). body_of one_update.cluster one_update.items a.id) (first_outcomes one_update.notes) ≡ map (λ b. Some b) one_update.serially
unfolding numbers
one_update-bodies = refl

pub lost_vote-outcomes : map (λ (a : Answered). a.reply) (first_outcomes lost_vote.notes) ≡ lost_vote.replies
lost_vote-outcomes = refl

pub lost_vote-bodies : map (λ (a : Answered). body_of lost_vote.cluster lost_vote.items a.id) (first_outcomes lost_vote.notes) ≡ map (λ b. Some b) lost_vote.serially
unfolding numbers
lost_vote-bodies = refl

pub no_lost_vote-outcomes : map (λ (a : Answered). a.reply) (first_outcomes no_lost_vote.notes) ≡ no_lost_vote.replies
no_lost_vote-outcomes = refl

pub no_lost_vote-bodies : map (λ (a : Answered). body_of no_lost_vote.cluster no_lost_vote.items a.id) (first_outcomes no_lost_vote.notes) ≡ map (λ b. Some b) no_lost_vote.serially
unfolding numbers
no_lost_vote-bodies = refl

pub conflict_heard_first-outcomes : map (λ (a : Answered). a.reply) (first_outcomes conflict_heard_first.notes) ≡ conflict_heard_first.replies
conflict_heard_first-outcomes = refl

pub conflict_heard_first-bodies : map (λ (a : Answered). body_of conflict_heard_first.cluster conflict_heard_first.items a.id) (first_outcomes conflict_heard_first.notes) ≡ map (λ b. Some b) conflict_heard_first.serially
unfolding numbers
conflict_heard_first-bodies = refl

pub reads_do_not_conflict-outcomes : map (λ (a : Answered). a.reply) (first_outcomes reads_do_not_conflict.notes) ≡ reads_do_not_conflict.replies
reads_do_not_conflict-outcomes = refl

pub reads_do_not_conflict-bodies : map (λ (a : Answered). body_of reads_do_not_conflict.cluster reads_do_not_conflict.items a.id) (first_outcomes reads_do_not_conflict.notes) ≡ map (λ b. Some b) reads_do_not_conflict.serially
unfolding numbers
reads_do_not_conflict-bodies = refl

pub four_of_five-outcomes : map (λ (a : Answered). a.reply) (first_outcomes four_of_five.notes) ≡ four_of_five.replies
four_of_five-outcomes = refl

pub four_of_five-bodies : map (λ (a : Answered). body_of four_of_five.cluster four_of_five.items a.id) (first_outcomes four_of_five.notes) ≡ map (λ b. Some b) four_of_five.serially
unfolding numbers
four_of_five-bodies = refl

pub slow_needs_majority-outcomes : map (λ (a : Answered). a.reply) (first_outcomes slow_needs_majority.notes) ≡ slow_needs_majority.replies
slow_needs_majority-outcomes = refl

pub slow_needs_majority-bodies : map (λ (a : Answered). body_of slow_needs_majority.cluster slow_needs_majority.items a.id) (first_outcomes slow_needs_majority.notes) ≡ map (λ b. Some b) slow_needs_majority.serially
unfolding numbers
slow_needs_majority-bodies = refl

pub printed_order-outcomes : map (λ (a : Answered). a.reply) (first_outcomes printed_order.notes) ≡ printed_order.replies
printed_order-outcomes = refl

pub printed_order-bodies : map (λ (a : Answered). body_of printed_order.cluster printed_order.items a.id) (first_outcomes printed_order.notes) ≡ map (λ b. Some b) printed_order.serially
unfolding numbers
printed_order-bodies = refl

pub silent_until_applied-outcomes : map (λ (a : Answered). a.reply) (first_outcomes silent_until_applied.notes) ≡ silent_until_applied.replies
silent_until_applied-outcomes = refl

pub silent_until_applied-bodies : map (λ (a : Answered). body_of silent_until_applied.cluster silent_until_applied.items a.id) (first_outcomes silent_until_applied.notes) ≡ map (λ b. Some b) silent_until_applied.serially
unfolding numbers
silent_until_applied-bodies = refl

pub recovery_after_restart-outcomes : map (λ (a : Answered). a.reply) (first_outcomes recovery_after_restart.notes) ≡ recovery_after_restart.replies
recovery_after_restart-outcomes = refl

pub recovery_after_restart-bodies : map (λ (a : Answered). body_of recovery_after_restart.cluster recovery_after_restart.items a.id) (first_outcomes recovery_after_restart.notes) ≡ map (λ b. Some b) recovery_after_restart.serially
unfolding numbers
recovery_after_restart-bodies = refl

pub one_unchanged_of_two-outcomes : map (λ (a : Answered). a.reply) (first_outcomes one_unchanged_of_two.notes) ≡ one_unchanged_of_two.replies
one_unchanged_of_two-outcomes = refl

pub one_unchanged_of_two-bodies : map (λ (a : Answered). body_of one_unchanged_of_two.cluster one_unchanged_of_two.items a.id) (first_outcomes one_unchanged_of_two.notes) ≡ map (λ b. Some b) one_unchanged_of_two.serially
unfolding numbers
one_unchanged_of_two-bodies = refl

pub superseded_by_accept-outcomes : map (λ (a : Answered). a.reply) (first_outcomes superseded_by_accept.notes) ≡ superseded_by_accept.replies
superseded_by_accept-outcomes = refl

pub superseded_by_accept-bodies : map (λ (a : Answered). body_of superseded_by_accept.cluster superseded_by_accept.items a.id) (first_outcomes superseded_by_accept.notes) ≡ map (λ b. Some b) superseded_by_accept.serially
unfolding numbers
superseded_by_accept-bodies = refl

pub blocked_recovery-outcomes : map (λ (a : Answered). a.reply) (first_outcomes blocked_recovery.notes) ≡ blocked_recovery.replies
blocked_recovery-outcomes = refl

pub blocked_recovery-bodies : map (λ (a : Answered). body_of blocked_recovery.cluster blocked_recovery.items a.id) (first_outcomes blocked_recovery.notes) ≡ map (λ b. Some b) blocked_recovery.serially
unfolding numbers
blocked_recovery-bodies = refl

pub nack_with_own_ballot-outcomes : map (λ (a : Answered). a.reply) (first_outcomes nack_with_own_ballot.notes) ≡ nack_with_own_ballot.replies
nack_with_own_ballot-outcomes = refl

pub nack_with_own_ballot-bodies : map (λ (a : Answered). body_of nack_with_own_ballot.cluster nack_with_own_ballot.items a.id) (first_outcomes nack_with_own_ballot.notes) ≡ map (λ b. Some b) nack_with_own_ballot.serially
unfolding numbers
nack_with_own_ballot-bodies = refl

pub transfer_between_shards-outcomes : map (λ (a : Answered). a.reply) (first_outcomes transfer_between_shards.notes) ≡ transfer_between_shards.replies
transfer_between_shards-outcomes = refl
