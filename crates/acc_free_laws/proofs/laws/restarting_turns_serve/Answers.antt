use Rattle.acc_free_laws.proofs.Turns.{restart_serves, failure_serves}
use Rattle.acc_free_laws.proofs.laws.restarting_turns_serve.Goals as goal

pub returns-clause-restart : goal.returns-clause-restart
returns-clause-restart c = λ plan seen others a stopped there apart stops free h. restart_serves plan seen others a stopped apart there stops free h

pub returns-clause-failure : goal.returns-clause-failure
returns-clause-failure c = λ plan seen others a stopped there apart stops free h. failure_serves plan seen others a stopped apart there stops free h
