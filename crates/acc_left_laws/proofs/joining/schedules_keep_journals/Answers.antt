use Rattle.acc_left_laws.proofs.Scheduled.{schedule_keeps}
use Rattle.acc_left_laws.proofs.joining.schedules_keep_journals.Goals as goal

pub returns : goal.returns
returns c = schedule_keeps
