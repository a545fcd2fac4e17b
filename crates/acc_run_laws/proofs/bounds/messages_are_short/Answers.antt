use Rattle.acc_run_laws.proofs.Everywhere.{is_short, next_short}
use Rattle.acc_run_laws.proofs.bounds.messages_are_short.Goals as goal

pub returns-clause-run : goal.returns-clause-run
returns-clause-run c = λ cluster items m standing bodies sending. is_short cluster items standing bodies m sending

pub returns-clause-next : goal.returns-clause-next
returns-clause-next c = λ cluster items a act standing bodies may. next_short cluster items a act standing may bodies
