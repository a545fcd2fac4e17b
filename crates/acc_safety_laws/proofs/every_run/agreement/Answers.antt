use Rattle.acc_safety_laws.proofs.EveryRun.{agreement_holds}
use Rattle.acc_safety_laws.proofs.every_run.agreement.Goals as goal

pub returns : goal.returns
returns c = agreement_holds
