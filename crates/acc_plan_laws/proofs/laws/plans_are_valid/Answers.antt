use Rattle.acc_plan_laws.proofs.PlansValid.{plan_is_valid}
use Rattle.acc_plan_laws.proofs.laws.plans_are_valid.Goals as goal

pub returns : goal.returns
returns c = plan_is_valid
