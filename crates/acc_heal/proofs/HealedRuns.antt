-- The items of a run with its healing.
use Rattle.std.proofs.Common.{◌≡◌, List, ◌++◌, sym, ◌∙◌, subst}
use Rattle.acc_message.specs.declared.item.Item.{Item}
use Rattle.acc_message.specs.Run.{IsRun}
use Rattle.acc_schedule.specs.Content.{Content}
use Rattle.acc_schedule.specs.Plan.{IsPlan}
use Rattle.acc_schedule_runs.specs.Laws.{NobodyIsDown}
use Rattle.acc_schedule_runs.specs.Moves.{Answers}
use Rattle.acc_schedule_runs.specs.Schedules.{cluster_of}
use Rattle.acc_heal_laws.specs.Healed.{IsHealed}
use Rattle.acc_heal_laws.specs.Laws.{HealingGoesOn, HealingHeals, StrictDisksHeal}
use Rattle.acc_heal.specs.Healed.{HealsTo, HealsStrictlyTo}

pub healed_is_run : HealingGoesOn → (plan : Content) (answers : Answers) (items : List Item) → IsPlan plan → HealsTo plan answers items → IsRun (cluster_of plan) items
healed_is_run goes_on plan answers items is_plan h =
    subst (IsRun (cluster_of plan)) (sym h.items_are) (goes_on plan answers h.steps h.between h.last is_plan h.healing).run

pub nobody_down_healed : HealingHeals → (plan : Content) (answers : Answers) (items later : List Item) → IsPlan plan → (h : HealsTo plan answers items)
    → items ≡ later ++ h.between.own → NobodyIsDown later → IsHealed (cluster_of plan) items
nobody_down_healed heals plan answers items later is_plan h is nobody =
    subst (IsHealed (cluster_of plan)) (sym h.items_are)
    (heals plan answers h.steps h.between h.last
    (record { is_plan = is_plan; healing = h.healing; later = later; items_are = sym h.items_are ∙ is; nobody_down = nobody }))

pub strictly_healed : StrictDisksHeal → (plan : Content) (items : List Item) → IsPlan plan → HealsStrictlyTo plan items → IsHealed (cluster_of plan) items
strictly_healed heals plan items is_plan h =
    subst (IsHealed (cluster_of plan)) (sym h.items_are) (heals plan h.steps h.between h.last is_plan h.healing).healed
