use Rattle.acc_safety_laws.proofs.Stages.{one_proposal, one_commit, never_both}
use Rattle.acc_safety_laws.proofs.attempt_facts.stages_come_once.Goals as goal

pub returns-clause-proposals : goal.returns-clause-proposals
returns-clause-proposals c = one_proposal

pub returns-clause-commits : goal.returns-clause-commits
returns-clause-commits c = one_commit

pub returns-clause-fast : goal.returns-clause-fast
returns-clause-fast c = never_both
