use Rattle.acc_safety_laws.proofs.EveryRun.{coverage_holds}
use Rattle.acc_safety_laws.proofs.every_run.coverage.Goals as goal

pub returns : goal.returns
returns c = coverage_holds
