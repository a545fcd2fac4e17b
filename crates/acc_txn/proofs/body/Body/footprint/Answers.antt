-- A key is found as written where some update writes it, and else as read where the body reads it.
use Rattle.std.proofs.Common.{refl}
use Rattle.acc_txn.proofs.UsesFacts.{found_in}
use Rattle.acc_txn.proofs.body.Body.footprint.Goals as goal

pub returns-clause-keys : goal.returns-clause-keys
returns-clause-keys c = found_in c.copy.result c.args.self.now c.args.self.now refl (rw c.uses.ensures at c.copy.ensures)
