use Rattle.acc_safety.proofs.PlaceOrder.{Contains-IsIn}
use Rattle.acc_run_laws.proofs.Sendable.{each_sendable, next_sendable}
use Rattle.acc_run_laws.proofs.bounds.a_step_is_counted.Goals as goal

pub returns-clause-run : goal.returns-clause-run
returns-clause-run c = λ cluster item items standing bodies few there. each_sendable cluster item items standing bodies few (Contains-IsIn item items there)

pub returns-clause-next : goal.returns-clause-next
returns-clause-next c = λ cluster items a act standing bodies few may. next_sendable cluster items a act standing may bodies few
