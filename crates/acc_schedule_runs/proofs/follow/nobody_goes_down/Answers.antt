use Rattle.acc_schedule_runs.proofs.NobodyDown.{nobody_goes_down}
use Rattle.acc_schedule_runs.proofs.follow.nobody_goes_down.Goals as goal

pub returns : goal.returns
returns c = nobody_goes_down
