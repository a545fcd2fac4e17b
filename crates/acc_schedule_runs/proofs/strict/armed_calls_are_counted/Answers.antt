use Rattle.acc_schedule_runs.proofs.Counting.{steps_pass, step_stops, step_kept, afresh, others_stay, as_journals}
use Rattle.acc_schedule_runs.proofs.strict.armed_calls_are_counted.Goals as goal

pub returns : goal.returns
returns c = record { pass = steps_pass; stops = step_stops; kept = step_kept; afresh = afresh; apart = others_stay; journal = as_journals }
