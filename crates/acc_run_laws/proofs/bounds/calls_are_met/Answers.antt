use Rattle.acc_run_laws.proofs.Sendable.{node_meets, store_meets, is_deliverable}
use Rattle.acc_run_laws.proofs.bounds.calls_are_met.Goals as goal

pub returns-clause-node : goal.returns-clause-node
returns-clause-node c = node_meets

pub returns-clause-store : goal.returns-clause-store
returns-clause-store c = store_meets

pub returns-clause-message : goal.returns-clause-message
returns-clause-message c = is_deliverable
