use Rattle.acc_store.proofs.Refused.{unchanged}
use Rattle.acc_store.proofs.store.Store.step.Goals as goal

pub returns-in_err-prepared-clause-err : goal.returns-in_err-prepared-clause-err
returns-in_err-prepared-clause-err c = unchanged c.args.self.now c.from_residual.result
