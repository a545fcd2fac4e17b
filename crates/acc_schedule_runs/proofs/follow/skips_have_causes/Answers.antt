use Rattle.acc_schedule_runs.proofs.Skips.{passed_over, only_for_causes}
use Rattle.acc_schedule_runs.proofs.follow.skips_have_causes.Goals as goal

pub returns : goal.returns
returns c = record { passed = passed_over; only = only_for_causes }
