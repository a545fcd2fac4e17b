use Rattle.acc_safety_laws.proofs.EveryRun.{serial_holds}
use Rattle.acc_world.proofs.laws.serial.Goals as goal

pub returns : goal.returns
returns c = serial_holds _ _ c.requires.valid c.requires.run
