use Rattle.acc_schedule_runs.proofs.Ended.{limit_or_whole, never_both_ends}
use Rattle.acc_schedule_runs.proofs.limits.a_limit_or_the_whole.Goals as goal

pub returns : goal.returns
returns c = record { one = limit_or_whole; not_both = never_both_ends }
