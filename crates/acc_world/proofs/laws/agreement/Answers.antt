use Rattle.acc_safety_laws.proofs.EveryRun.{agreement_holds}
use Rattle.acc_world.proofs.laws.agreement.Goals as goal

pub returns : goal.returns
returns c = agreement_holds _ _ c.requires.valid c.requires.run
