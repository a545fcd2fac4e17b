use Rattle.acc_plan_laws.proofs.PlansValid.{plan_is_small}
use Rattle.acc_plan_laws.proofs.laws.plans_have_few_bodies.Goals as goal

pub returns : goal.returns
returns c = plan_is_small
