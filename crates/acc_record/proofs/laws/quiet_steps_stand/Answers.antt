use Rattle.acc_record.proofs.QuietSteps.{quiet_stands}
use Rattle.acc_record.proofs.laws.quiet_steps_stand.Goals as goal

pub returns : goal.returns
returns c = quiet_stands
