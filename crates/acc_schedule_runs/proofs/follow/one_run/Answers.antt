use Rattle.acc_schedule_runs.proofs.OneRun.{one_next, one_last, one_list}
use Rattle.acc_schedule_runs.proofs.follow.one_run.Goals as goal

pub returns : goal.returns
returns c = record { next = one_next; last = one_last; items = one_list }
