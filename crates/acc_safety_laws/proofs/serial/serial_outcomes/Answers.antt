use Rattle.acc_safety_laws.proofs.Whole.{serial_outcomes}
use Rattle.acc_safety_laws.proofs.serial.serial_outcomes.Goals as goal

pub returns : goal.returns
returns c = serial_outcomes
