use Rattle.acc_schedule_runs.proofs.StrictInLine.{strict_fronts_in_line, one_strict_front, strict_limit_answered}
use Rattle.acc_schedule_runs.proofs.limits.one_limit_over_strict_disks.Goals as goal

pub returns : goal.returns
returns c = record { line = strict_fronts_in_line; one = one_strict_front; answered = strict_limit_answered }
