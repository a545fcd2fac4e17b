use Rattle.acc_generator.proofs.PlanRules.{plan_kept}
use Rattle.acc_generator.proofs.laws.generated_plans_keep_the_rules.Goals as goal

pub returns : goal.returns
returns c = plan_kept
