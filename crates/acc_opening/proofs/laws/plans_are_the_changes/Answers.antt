use Rattle.acc_opening.proofs.PlanLaw.{plan_is}
use Rattle.acc_opening.proofs.laws.plans_are_the_changes.Goals as goal

pub returns : goal.returns
returns c = λ shard step past at changes taking plan. plan_is shard step past at taking changes plan
