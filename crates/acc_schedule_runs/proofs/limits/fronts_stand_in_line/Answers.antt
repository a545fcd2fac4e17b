use Rattle.acc_schedule_runs.proofs.InLine.{fronts_in_line, whole_is_front, whole_is_longest}
use Rattle.acc_schedule_runs.proofs.limits.fronts_stand_in_line.Goals as goal

pub returns : goal.returns
returns c = record { line = fronts_in_line; whole = whole_is_front; longest = whole_is_longest }
