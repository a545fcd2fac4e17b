use Rattle.std.proofs.Common.{subst}
use Rattle.acc_txn.specs.Short.{IsNumberedBody}
use Rattle.acc_txn.proofs.body.Body.code.Goals as goal

pub returns-clause-numbered : goal.returns-clause-numbered
returns-clause-numbered c = subst IsNumberedBody c.self.view_is c.self.invariant.2.numbered
