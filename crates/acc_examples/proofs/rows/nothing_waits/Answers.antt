use Rattle.acc_examples.proofs.Drained.{one_update-waits, lost_vote-waits, no_lost_vote-waits, conflict_heard_first-waits, reads_do_not_conflict-waits, four_of_five-waits, slow_needs_majority-waits, printed_order-waits, recovery_after_restart-waits, one_unchanged_of_two-waits, superseded_by_accept-waits, blocked_recovery-waits, nack_with_own_ballot-waits, transfer_between_shards-waits}
use Rattle.acc_examples.proofs.rows.nothing_waits.Goals as goal

pub returns-clause-one_update : goal.returns-clause-one_update
returns-clause-one_update c = one_update-waits

pub returns-clause-lost_vote : goal.returns-clause-lost_vote
returns-clause-lost_vote c = lost_vote-waits

pub returns-clause-no_lost_vote : goal.returns-clause-no_lost_vote
returns-clause-no_lost_vote c = no_lost_vote-waits

pub returns-clause-conflict_heard_first : goal.returns-clause-conflict_heard_first
returns-clause-conflict_heard_first c = conflict_heard_first-waits

pub returns-clause-reads_do_not_conflict : goal.returns-clause-reads_do_not_conflict
returns-clause-reads_do_not_conflict c = reads_do_not_conflict-waits

pub returns-clause-four_of_five : goal.returns-clause-four_of_five
returns-clause-four_of_five c = four_of_five-waits

pub returns-clause-slow_needs_majority : goal.returns-clause-slow_needs_majority
returns-clause-slow_needs_majority c = slow_needs_majority-waits

pub returns-clause-printed_order : goal.returns-clause-printed_order
returns-clause-printed_order c = printed_order-waits

pub returns-clause-recovery_after_restart : goal.returns-clause-recovery_after_restart
returns-clause-recovery_after_restart c = recovery_after_restart-waits

pub returns-clause-one_unchanged_of_two : goal.returns-clause-one_unchanged_of_two
returns-clause-one_unchanged_of_two c = one_unchanged_of_two-waits

pub returns-clause-superseded_by_accept : goal.returns-clause-superseded_by_accept
returns-clause-superseded_by_accept c = superseded_by_accept-waits

pub returns-clause-blocked_recovery : goal.returns-clause-blocked_recovery
returns-clause-blocked_recovery c = blocked_recovery-waits

pub returns-clause-nack_with_own_ballot : goal.returns-clause-nack_with_own_ballot
returns-clause-nack_with_own_ballot c = nack_with_own_ballot-waits

pub returns-clause-transfer_between_shards : goal.returns-clause-transfer_between_shards
returns-clause-transfer_between_shards c = transfer_between_shards-waits
