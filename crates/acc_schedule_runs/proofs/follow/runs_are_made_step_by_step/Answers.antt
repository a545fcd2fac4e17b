use Rattle.acc_schedule_runs.proofs.Answered.{answers_so_far, one_step_more}
use Rattle.acc_schedule_runs.proofs.follow.runs_are_made_step_by_step.Goals as goal

pub returns : goal.returns
returns c = record { answers = answers_so_far; step = one_step_more }
