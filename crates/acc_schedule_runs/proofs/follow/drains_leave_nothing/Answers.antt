use Rattle.acc_schedule_runs.proofs.Drained.{drains_leave_nothing}
use Rattle.acc_schedule_runs.proofs.follow.drains_leave_nothing.Goals as goal

pub returns : goal.returns
returns c = drains_leave_nothing
