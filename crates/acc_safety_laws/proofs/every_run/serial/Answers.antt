use Rattle.acc_safety_laws.proofs.EveryRun.{serial_holds}
use Rattle.acc_safety_laws.proofs.every_run.serial.Goals as goal

pub returns : goal.returns
returns c = serial_holds
