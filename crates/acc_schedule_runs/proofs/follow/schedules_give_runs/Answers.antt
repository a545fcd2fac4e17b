use Rattle.acc_schedule_runs.proofs.GivesRuns.{gives_a_run, obeys_a_run}
use Rattle.acc_schedule_runs.proofs.follow.schedules_give_runs.Goals as goal

pub returns : goal.returns
returns c = record { behind = gives_a_run; plan = obeys_a_run }
