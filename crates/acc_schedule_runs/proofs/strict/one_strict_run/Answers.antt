use Rattle.acc_schedule_runs.proofs.OneStrictRun.{one_next, one_last, one_list}
use Rattle.acc_schedule_runs.proofs.strict.one_strict_run.Goals as goal

pub returns : goal.returns
returns c = record { next = one_next; last = one_last; items = one_list }
