use Rattle.std.proofs.Common.{subst}
use Rattle.acc_txn.specs.Rules.{IsBody}
use Rattle.acc_txn.proofs.body.Body.parts.Goals as goal

pub returns-clause-keeps_rules : goal.returns-clause-keeps_rules
returns-clause-keeps_rules c = subst IsBody c.self.view_is c.self.invariant.0
