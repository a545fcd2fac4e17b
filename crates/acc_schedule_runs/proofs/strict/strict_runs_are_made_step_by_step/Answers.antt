use Rattle.acc_schedule_runs.proofs.OneStrictRun.{one_step_more}
use Rattle.acc_schedule_runs.proofs.strict.strict_runs_are_made_step_by_step.Goals as goal

pub returns : goal.returns
returns c = one_step_more
