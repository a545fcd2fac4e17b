use Rattle.acc_safety_laws.proofs.Last.{committed_last, committed_is_final}
use Rattle.acc_safety_laws.proofs.attempt_facts.committed_values_last.Goals as goal

pub returns-clause-commits : goal.returns-clause-commits
returns-clause-commits c = committed_last c.records_are_seen.ensures.committed

pub returns-clause-proposals : goal.returns-clause-proposals
returns-clause-proposals c = committed_is_final c.records_are_seen.ensures.committed
