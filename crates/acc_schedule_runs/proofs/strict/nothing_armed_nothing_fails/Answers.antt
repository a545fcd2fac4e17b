use Rattle.acc_schedule_runs.proofs.Unarmed.{nothing_fails, obeys_without_faults}
use Rattle.acc_schedule_runs.proofs.strict.nothing_armed_nothing_fails.Goals as goal

pub returns : goal.returns
returns c = record { follows = nothing_fails; plan = obeys_without_faults }
