-- The same over strict disks, whose answers are some answers.
use Rattle.std.proofs.Common.{◌≡◌, List, [], ◌∷◌, refl, sym, subst, count_by}
use Rattle.std.specs.List.{AllByRecursion}
use Rattle.acc_message.specs.declared.item.Item.{Item}
use Rattle.acc_message.specs.Items.{notes_of}
use Rattle.acc_message.specs.Run.{IsRun}
use Rattle.acc_safety.specs.Agreement.{Agreement}
use Rattle.acc_safety.specs.Calm.{EachBegunIsAnswered}
use Rattle.acc_safety.specs.Coverage.{Coverage}
use Rattle.acc_safety.specs.SerialOutcomes.{SerialOutcomes}
use Rattle.acc_report.specs.Report.{is_begin, is_reply, last_line}
use Rattle.acc_report_line.specs.declared.line.Line.TheVariants.{End}
use Rattle.acc_schedule.specs.Content.{Content}
use Rattle.acc_schedule.specs.Plan.{IsPlan}
use Rattle.acc_schedule.specs.declared.plan.Step.{Step}
use Rattle.acc_schedule.specs.declared.plan.Step.TheVariants.{Begin, Deliver, Drop, Recover, Slow, Restart, Fail, Drain}
use Rattle.acc_schedule_runs.specs.Laws.{IsCalmStep, EndsWithDrain}
use Rattle.acc_schedule_runs.specs.Schedules.{cluster_of, Obeys}
use Rattle.acc_schedule_runs.proofs.GivesRuns.{obeys_a_run}
use Rattle.acc_schedule_runs.specs.StrictLaws.{ArmsNothing, no_faults}
use Rattle.acc_schedule_runs.specs.StrictSchedules.{ObeysStrictly}
use Rattle.acc_schedule_runs.proofs.Answering.{obeys_with_some}
use Rattle.acc_schedule_runs.proofs.Unarmed.{obeys_without_faults}
use Rattle.acc_plan_laws.proofs.Safely.{CalmIsAnswered, plans_agree, plans_cover, plans_are_serial, plans_are_answered, none_stays_open}

calm_arms_nothing : (step : Step) → IsCalmStep step → ArmsNothing step
calm_arms_nothing (Begin txn) calm = tt
calm_arms_nothing (Deliver message) calm = absurd calm
calm_arms_nothing (Drop message) calm = absurd calm
calm_arms_nothing (Recover txn node) calm = absurd calm
calm_arms_nothing (Slow txn) calm = absurd calm
calm_arms_nothing (Restart actor choice) calm = absurd calm
calm_arms_nothing (Fail actor calls) calm = absurd calm
calm_arms_nothing Drain calm = tt

all_arm_nothing : (steps : List Step) → EndsWithDrain steps → AllByRecursion ArmsNothing steps
all_arm_nothing [] ends = tt
all_arm_nothing (step ∷ []) ends = (subst ArmsNothing (sym ends) tt, tt)
all_arm_nothing (step ∷ other ∷ steps) ends = (calm_arms_nothing step ends.0, all_arm_nothing (other ∷ steps) ends.1)

module _ (plan : Content) (items : List Item) (h : IsPlan plan) where
  pub strict_run : ObeysStrictly plan items → IsRun (cluster_of plan) items
  strict_run obeys = let some = obeys_with_some plan items obeys in obeys_a_run plan some.0 items h some.1

  pub strict_agree : ObeysStrictly plan items → Agreement items
  strict_agree obeys = let some = obeys_with_some plan items obeys in plans_agree plan some.0 items h some.1

  pub strict_cover : ObeysStrictly plan items → Coverage (cluster_of plan) items
  strict_cover obeys = let some = obeys_with_some plan items obeys in plans_cover plan some.0 items h some.1

  pub strict_are_serial : ObeysStrictly plan items → SerialOutcomes (cluster_of plan) items
  strict_are_serial obeys = let some = obeys_with_some plan items obeys in plans_are_serial plan some.0 items h some.1

  module _ (calm : CalmIsAnswered) (ends : EndsWithDrain plan.steps) (obeys : ObeysStrictly plan items) where
    without_faults : Obeys plan no_faults items
    without_faults = obeys_without_faults plan items (all_arm_nothing plan.steps ends) obeys

    pub strict_are_answered : EachBegunIsAnswered items
    strict_are_answered = plans_are_answered plan no_faults items h calm (λ place. refl) ends without_faults

    pub strict_none_open : last_line (notes_of items) ≡ End (count_by is_begin (notes_of items)) (count_by is_reply (notes_of items)) 0
    strict_none_open = none_stays_open plan no_faults items h calm (λ place. refl) ends without_faults
