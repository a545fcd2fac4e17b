-- What the laws of fronts and limits of healings say, and those of healings step by step.
use Rattle.std.specs.Prelude.{◌≡◌, ◌⊎◌, ℕ, ◌+◌, ◌≤◌, List, [], ◌∷◌, ◌++◌, Option, Some, None, length}
use Rattle.acc_message.specs.declared.error.Which.{Which}
use Rattle.acc_message.specs.declared.item.Item.{Item}
use Rattle.acc_schedule.specs.declared.plan.Step.{Step}
use Rattle.acc_schedule.specs.Content.{Content}
use Rattle.acc_schedule.specs.Plan.{IsPlan, IsStep}
use Rattle.acc_schedule_runs.specs.Situations.{Situation, opened}
use Rattle.acc_schedule_runs.specs.Moves.{Answers}
use Rattle.acc_schedule_runs.specs.Schedules.{Follows, cluster_of}
use Rattle.acc_schedule_runs.specs.Laws.{AgreeBelow}
use Rattle.acc_schedule_runs.specs.Fronts.{Begins}
use Rattle.acc_schedule_runs.specs.Limits.{IsWithin}
use Rattle.acc_schedule_runs.specs.StrictMoves.{StrictSituation, opened_strictly}
use Rattle.acc_schedule_runs.specs.StrictSchedules.{FollowsStrictly}
use Rattle.acc_heal_laws.specs.Healings.{Moving, Standing, Goes, due_at, standing_after, moving_with, beginning, moving_strictly, beginning_strictly, IsHealing, IsStrictHealing}
use Rattle.acc_heal_laws.specs.HealingFronts.{HealingReaches, IsFrontWithHealing, LimitEndsWithHealing, IsStrictFrontWithHealing, StrictLimitEndsWithHealing}

-- ---- step by step

-- each step that is due in a healing speaks of transactions, nodes and actors of the plan
abbrev pub DueStepsAreKnown : Type 0
DueStepsAreKnown =
    (plan : Content) (answers : Answers) (steps : List Step) (between : Situation) (stand : Standing Situation) (step : Step)
    → IsPlan plan → Follows (cluster_of plan) answers 0 plan.steps (opened []) between
    → Goes (moving_with plan answers) (length plan.steps) steps (beginning plan between) stand
    → due_at (moving_with plan answers) stand ≡ Some step → IsStep (length plan.names) plan.topology step

abbrev pub StrictDueStepsAreKnown : Type 0
StrictDueStepsAreKnown =
    (plan : Content) (steps : List Step) (between : StrictSituation) (stand : Standing StrictSituation) (step : Step)
    → IsPlan plan → FollowsStrictly (cluster_of plan) 0 plan.steps (opened_strictly []) between
    → Goes (moving_strictly plan) (length plan.steps) steps (beginning_strictly plan between) stand
    → due_at (moving_strictly plan) stand ≡ Some step → IsStep (length plan.names) plan.topology step

-- one due step more goes on from where the others lead
abbrev pub GoesOneStepMore : {S : Type 0} → Moving S → Type 0
GoesOneStepMore {S} moving =
    (number : ℕ) (steps : List Step) (from stand : Standing S) (step : Step) (next : S)
    → Goes moving number steps from stand → due_at moving stand ≡ Some step → moving.next (number + length steps) step stand.at next
    → Goes moving number (steps ++ step ∷ []) from (standing_after moving stand next)

-- the answers count only at places of items
abbrev pub AnswersCountAtItems : Type 0
AnswersCountAtItems =
    (plan : Content) (answers other : Answers) (number : ℕ) (steps : List Step) (from to : Standing Situation)
    → AgreeBelow answers other (length to.at.own) → Goes (moving_with plan answers) number steps from to
    → Goes (moving_with plan other) number steps from to

abbrev pub AnswersCountAtItemsReached : Type 0
AnswersCountAtItemsReached =
    (plan : Content) (answers other : Answers) (number : ℕ) (from : Standing Situation) (reached : Situation)
    → AgreeBelow answers other (length reached.own) → HealingReaches (moving_with plan answers) number from reached
    → HealingReaches (moving_with plan other) number from reached

-- ---- fronts

-- of two of these fronts the longer one begins with the other
abbrev pub StandInLine : (List Item → Type 0) → Type 0
StandInLine Front = (one other : List Item) → Front one → Front other → length one ≤ length other → Begins one other

-- the items of a healed run are the longest of these fronts
pub record IsLongest (Front : List Item → Type 0) (items : List Item) : Type 0 where
  pub is_front : Front items
  pub longest : (front : List Item) → Front front → Begins front items

abbrev pub HealedIsLongest : Type 0
HealedIsLongest =
    (plan : Content) (answers : Answers) (steps : List Step) (between last : Situation)
    → IsHealing plan answers steps between last → IsLongest (IsFrontWithHealing plan answers) last.own

abbrev pub StrictlyHealedIsLongest : Type 0
StrictlyHealedIsLongest =
    (plan : Content) (steps : List Step) (between last : StrictSituation)
    → IsStrictHealing plan steps between last → IsLongest (IsStrictFrontWithHealing plan) last.found.own

-- ---- limits

abbrev pub OneHealingLimit : Type 0
OneHealingLimit =
    (plan : Content) (answers : Answers) (one other : List Item) (which which_other : Which) (number number_other : ℕ)
    → LimitEndsWithHealing plan answers one which number → LimitEndsWithHealing plan answers other which_other number_other
    → (one ≡ other) × (which ≡ which_other) × (number ≡ number_other)

abbrev pub OneStrictHealingLimit : Type 0
OneStrictHealingLimit =
    (plan : Content) (one other : List Item) (which which_other : Which) (number number_other : ℕ)
    → StrictLimitEndsWithHealing plan one which number → StrictLimitEndsWithHealing plan other which_other number_other
    → (one ≡ other) × (which ≡ which_other) × (number ≡ number_other)

-- the items are within the limits, or a limit ends a front, and never both
pub record LimitOrWhole (Ends : List Item → Which → ℕ → Type 0) (items : List Item) : Type 0 where
  pub one : IsWithin items ⊎ ((front : List Item) × (which : Which) × (number : ℕ) × Ends front which number)
  pub not_both : (front : List Item) (which : Which) (number : ℕ) → IsWithin items → Ends front which number → ⊥

abbrev pub LimitOrHealed : Type 0
LimitOrHealed =
    (plan : Content) (answers : Answers) (steps : List Step) (between last : Situation)
    → IsHealing plan answers steps between last → LimitOrWhole (LimitEndsWithHealing plan answers) last.own

abbrev pub LimitOrStrictlyHealed : Type 0
LimitOrStrictlyHealed =
    (plan : Content) (steps : List Step) (between last : StrictSituation)
    → IsStrictHealing plan steps between last → LimitOrWhole (StrictLimitEndsWithHealing plan) last.found.own

-- a limit over strict disks is one with some answers of the disks
abbrev pub StrictLimitsAreAnswered : Type 0
StrictLimitsAreAnswered =
    (plan : Content) (items : List Item) (which : Which) (number : ℕ) → StrictLimitEndsWithHealing plan items which number
    → (answers : Answers) × LimitEndsWithHealing plan answers items which number

-- ---- how a plan and its healing end over strict disks

-- with these items: those of the whole healing, within the limits, or those after which a limit ends the run or its healing
abbrev pub EndsStrictly : Content → List Item → Option (Which × ℕ) → Type 0
EndsStrictly plan items None =
    (steps : List Step) × (between : StrictSituation) × (last : StrictSituation) × IsStrictHealing plan steps between last
    × (items ≡ last.found.own) × IsWithin items
EndsStrictly plan items (Some limit) = StrictLimitEndsWithHealing plan items limit.0 limit.1

abbrev pub OneStrictEnd : Type 0
OneStrictEnd =
    (plan : Content) (one other : List Item) (limit limit_other : Option (Which × ℕ))
    → EndsStrictly plan one limit → EndsStrictly plan other limit_other → (one ≡ other) × (limit ≡ limit_other)
