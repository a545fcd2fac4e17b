-- Fronts of a run with its healing, up to somewhere inside a step that is due, and where a limit ends it.
use Rattle.std.specs.Prelude.{◌≡◌, ◌⊎◌, ℕ, ◌+◌, List, Some, length, []}
use Rattle.acc_message.specs.declared.error.Which.{Which}
use Rattle.acc_message.specs.declared.item.Item.{Item}
use Rattle.acc_schedule.specs.declared.plan.Step.{Step}
use Rattle.acc_schedule.specs.Content.{Content}
use Rattle.acc_schedule_runs.specs.Situations.{Situation, opened}
use Rattle.acc_schedule_runs.specs.Moves.{Answers}
use Rattle.acc_schedule_runs.specs.Schedules.{Follows, cluster_of}
use Rattle.acc_schedule_runs.specs.StrictMoves.{StrictSituation, opened_strictly}
use Rattle.acc_schedule_runs.specs.StrictSchedules.{FollowsStrictly}
use Rattle.acc_schedule_runs.specs.Fronts.{Begins, IsFront}
use Rattle.acc_schedule_runs.specs.StrictFronts.{IsStrictFront}
use Rattle.acc_schedule_runs.specs.Limits.{EndsAt}
use Rattle.acc_heal_laws.specs.Healings.{Moving, Standing, Goes, due_at, moving_with, beginning, moving_strictly, beginning_strictly}

-- The healing comes to this: some due steps are whole, and the next one may be under way.
pub record HealingReaches {S : Type 0} (moving : Moving S) (number : ℕ) (from : Standing S) (reached : S) : Type 0 where
  pub steps : List Step
  pub stand : Standing S
  pub goes : Goes moving number steps from stand
  pub step : Step
  pub due : due_at moving stand ≡ Some step
  pub comes : moving.comes (number + length steps) step stand.at reached

-- ---- with given answers of the disks

-- The items are a front of those of the plan's healing, whose run before it has an end.
pub record IsHealingFront (plan : Content) (answers : Answers) (items : List Item) : Type 0 where
  pub between : Situation
  pub follows : Follows (cluster_of plan) answers 0 plan.steps (opened []) between
  pub reached : Situation
  pub reaches : HealingReaches (moving_with plan answers) (length plan.steps) (beginning plan between) reached
  pub begins : Begins items reached.own

-- a front of the plan's run, or of the healing after it
abbrev pub IsFrontWithHealing : Content → Answers → List Item → Type 0
IsFrontWithHealing plan answers items = IsFront plan answers items ⊎ IsHealingFront plan answers items

-- the limit ends the plan's run or its healing after these items
abbrev pub LimitEndsWithHealing : Content → Answers → List Item → Which → ℕ → Type 0
LimitEndsWithHealing plan answers items which number = EndsAt (IsFrontWithHealing plan answers) items which number

-- ---- over strict disks

pub record IsStrictHealingFront (plan : Content) (items : List Item) : Type 0 where
  pub between : StrictSituation
  pub follows : FollowsStrictly (cluster_of plan) 0 plan.steps (opened_strictly []) between
  pub reached : StrictSituation
  pub reaches : HealingReaches (moving_strictly plan) (length plan.steps) (beginning_strictly plan between) reached
  pub begins : Begins items reached.found.own

abbrev pub IsStrictFrontWithHealing : Content → List Item → Type 0
IsStrictFrontWithHealing plan items = IsStrictFront plan items ⊎ IsStrictHealingFront plan items

abbrev pub StrictLimitEndsWithHealing : Content → List Item → Which → ℕ → Type 0
StrictLimitEndsWithHealing plan items which number = EndsAt (IsStrictFrontWithHealing plan) items which number
