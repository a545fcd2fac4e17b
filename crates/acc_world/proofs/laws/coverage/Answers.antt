use Rattle.acc_safety_laws.proofs.EveryRun.{coverage_holds}
use Rattle.acc_world.proofs.laws.coverage.Goals as goal

pub returns : goal.returns
returns c = coverage_holds _ _ c.requires.valid c.requires.run
