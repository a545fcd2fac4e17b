use Rattle.acc_schedule_runs.proofs.Answering.{some_answers, obeys_with_some}
use Rattle.acc_schedule_runs.proofs.strict.strict_disks_give_answers.Goals as goal

pub returns : goal.returns
returns c = record { follows = some_answers; plan = obeys_with_some }
