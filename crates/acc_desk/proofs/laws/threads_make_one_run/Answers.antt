use Rattle.acc_desk.proofs.Threads.{one_run}
use Rattle.acc_desk.proofs.laws.threads_make_one_run.Goals as goal

pub returns : goal.returns
returns g c = λ strict_run plan tape made desks items sound come owned free. one_run g.D.Disk strict_run plan tape made items desks sound come owned free
