use Rattle.acc_schedule_runs.proofs.Made.{goes_on_with, reaches_same}
use Rattle.acc_schedule_runs.proofs.limits.fronts_are_made_step_by_step.Goals as goal

pub returns : goal.returns
returns c = record { step = goes_on_with; answers = reaches_same }
