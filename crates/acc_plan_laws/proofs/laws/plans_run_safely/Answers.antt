use Rattle.acc_schedule_runs.proofs.GivesRuns.{obeys_a_run}
use Rattle.acc_plan_laws.proofs.Safely.{plans_agree, plans_cover, plans_are_serial}
use Rattle.acc_plan_laws.proofs.laws.plans_run_safely.Goals as goal

pub returns : goal.returns
returns c = record { run = obeys_a_run; agreement = plans_agree; coverage = plans_cover; serial = plans_are_serial }
