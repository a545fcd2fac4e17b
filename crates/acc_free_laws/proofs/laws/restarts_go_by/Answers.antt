use Rattle.acc_free_laws.proofs.Turns.{restart_entered, restart_failed}
use Rattle.acc_free_laws.proofs.laws.restarts_go_by.Goals as goal

pub returns-clause-restart : goal.returns-clause-restart
returns-clause-restart c = λ plan seen others a stopped command left apart is gone. restart_entered plan seen others a stopped apart command left is gone

pub returns-clause-failure : goal.returns-clause-failure
returns-clause-failure c = λ plan seen others a stopped command left apart is gone. restart_failed plan seen others a stopped apart command left is gone
