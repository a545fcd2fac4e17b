use Rattle.acc_schedule_runs.proofs.Ended.{one_front}
use Rattle.acc_schedule_runs.proofs.limits.one_limit.Goals as goal

pub returns : goal.returns
returns c = one_front
