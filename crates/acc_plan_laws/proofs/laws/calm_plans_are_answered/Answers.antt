use Rattle.acc_plan_laws.proofs.Safely.{plans_are_answered, none_stays_open}
use Rattle.acc_plan_laws.proofs.laws.calm_plans_are_answered.Goals as goal

pub returns : goal.returns
returns c = record {
  answered = λ plan answers items h. plans_are_answered plan answers items h c.calm.ensures;
  none_open = λ plan answers items h. none_stays_open plan answers items h c.calm.ensures;
}
