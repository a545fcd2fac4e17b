use Rattle.acc_heal_laws.specs.Healings.{moving_with, moving_strictly}
use Rattle.acc_heal_laws.proofs.Stepwise.{one_step_more, goes_same, reached_same, due_steps_are_known}
use Rattle.acc_heal_laws.proofs.StrictGoing.{strict_due_steps_are_known}
use Rattle.acc_heal_laws.proofs.laws.healings_go_step_by_step.Goals as goal

pub returns-clause-known : goal.returns-clause-known
returns-clause-known c = due_steps_are_known c.plans_are_valid.ensures

pub returns-clause-strictly_known : goal.returns-clause-strictly_known
returns-clause-strictly_known c = strict_due_steps_are_known (due_steps_are_known c.plans_are_valid.ensures)

pub returns-clause-step : goal.returns-clause-step
returns-clause-step c = λ plan answers. one_step_more (moving_with plan answers)

pub returns-clause-strict_step : goal.returns-clause-strict_step
returns-clause-strict_step c = λ plan. one_step_more (moving_strictly plan)

pub returns-clause-answers : goal.returns-clause-answers
returns-clause-answers c = goes_same

pub returns-clause-reached : goal.returns-clause-reached
returns-clause-reached c = reached_same c.fronts_are_made_step_by_step.ensures.answers
