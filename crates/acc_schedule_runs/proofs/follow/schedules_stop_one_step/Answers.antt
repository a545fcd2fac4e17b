use Rattle.acc_schedule_runs.proofs.OneStop.{one_step_is_stopped}
use Rattle.acc_schedule_runs.proofs.follow.schedules_stop_one_step.Goals as goal

pub returns : goal.returns
returns c = one_step_is_stopped
