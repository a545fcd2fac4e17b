-- Where the healing of a cluster stands: over any disks with some answers, and over strict disks by the plan alone.
--     Place          the number of the next step, the stage, and the items so far
--     IsHealingAt    the plan's run, and due steps after it, have led the cluster to a place
--     Leads, EndsWithin      what is done to a cluster whose healing stands in a place
use Rattle.std.specs.Prelude.{◌≡◌, ℕ, ◌+◌, Bool, true, false, List, [], ◌++◌, length, map, Option, None, Some}
use Rattle.std.specs.List.{AllByRecursion}
use Rattle.acc_stamp.specs.declared.stamps.TxnId.{TxnId}
use Rattle.acc_stamp.specs.declared.stamps.Ballot.{Ballot}
use Rattle.acc_stamp.specs.Actor.{node_of_stamp}
use Rattle.acc_ports.specs.declared.disk.Disk.{Ghosts}
use Rattle.acc_message.specs.declared.error.Which.{Which}
use Rattle.acc_message.specs.declared.item.Item.{Item}
use Rattle.acc_message.specs.Items.{txn_of}
use Rattle.acc_schedule.specs.Content.{Content}
use Rattle.acc_schedule.specs.declared.plan.Step.{Step}
use Rattle.acc_schedule.specs.declared.plan.Step.TheVariants.{Recover}
use Rattle.acc_schedule_runs.specs.Situations.{Situation, opened}
use Rattle.acc_schedule_runs.specs.Moves.{Answers}
use Rattle.acc_schedule_runs.specs.Schedules.{Follows, cluster_of}
use Rattle.acc_schedule_runs.specs.StrictMoves.{StrictSituation, opened_strictly}
use Rattle.acc_schedule_runs.specs.StrictSchedules.{FollowsStrictly}
use Rattle.acc_cluster.specs.declared.cluster.Cluster.{Cluster}
use Rattle.acc_cluster.specs.Stands.{StandsFor, StandsStrictly}
use Rattle.acc_heal_laws.specs.Stages.{Stage, Reopens, Turns, EndsFirst, Repeats, EndsSecond, Turn, due, stage_after, stage_after_first, next_turn, reopening, begun_ids}
use Rattle.acc_heal_laws.specs.Healings.{Moving, Standing, Goes, moving_with, beginning, moving_strictly, beginning_strictly}
use Rattle.acc_heal.specs.declared.seen.Seen.{Seen}
use Rattle.acc_heal.specs.Seen.{TellsOldest}
use Rattle.acc_heal_laws.specs.HealingFronts.{LimitEndsWithHealing, StrictLimitEndsWithHealing}

-- ---- places

pub record Place : Type 0 where
  pub number : ℕ
  pub stage : Stage
  pub items : List Item

-- the step that is due in a place
abbrev pub due_in : Content → Place → Option Step
due_in plan place = due (cluster_of plan) place.stage place.items

-- the place after the due step, which has led to these items
abbrev pub place_after : Content → Place → List Item → Place
place_after plan place now =
    record { number = place.number + 1; stage = stage_after (cluster_of plan) place.stage place.items now; items = now }

-- the turn whose recover is due in a place
abbrev pub turn_in_stage : Content → List Item → Stage → Option Turn
turn_in_stage plan items (Reopens steps) = None
turn_in_stage plan items (Turns ids) = next_turn (cluster_of plan) items ids
turn_in_stage plan items (EndsFirst turn drawn) = None
turn_in_stage plan items (Repeats turn) = None
turn_in_stage plan items (EndsSecond turn) = None

abbrev pub turn_in : Content → Place → Option Turn
turn_in plan place = turn_in_stage plan place.items place.stage

-- ---- kinds of places

-- the step is due there, and has this number
abbrev pub IsDue : Content → ℕ → Step → Place → Type 0
IsDue plan number step place = (place.number ≡ number) × (due_in plan place ≡ Some step)

-- the due step has led from one place to the other, where the next number is this one
pub record TookDue (plan : Content) (number : ℕ) (place now : Place) : Type 0 where
  pub next : now.number ≡ number
  pub now_is : now ≡ place_after plan place now.items
  pub later : List Item
  pub items_are : now.items ≡ later ++ place.items

-- the reopening is due there, and its first step has this number
abbrev pub IsReopening : Content → ℕ → Place → Type 0
IsReopening plan number place = (place.number ≡ number) × (place.stage ≡ Reopens (reopening plan place.items))

-- these steps of it are left there, and the first of them, or the drain after all, has this number
abbrev pub IsReopeningBy : ℕ → List Step → Place → Type 0
IsReopeningBy number left place = (place.number ≡ number) × (place.stage ≡ Reopens left)

abbrev pub IsReopened : ℕ → Place → Type 0
IsReopened number place = IsReopeningBy number [] place

-- all turns are left there, and the first step of them has this number
abbrev pub IsTurning : ℕ → Place → Type 0
IsTurning number place = (place.number ≡ number) × (place.stage ≡ Turns (begun_ids place.items))

-- nothing is due any more
abbrev pub IsOver : Content → Place → Type 0
IsOver plan place = due_in plan place ≡ None

abbrev pub recover_of : TxnId → ℕ → Step
recover_of id txn = Recover txn (node_of_stamp id.0)

-- the turn of this transaction is due there, and its first recover has this number
pub record IsFirst (plan : Content) (number : ℕ) (id : TxnId) (txn : ℕ) (place : Place) : Type 0 where
  pub number_is : place.number ≡ number
  pub rest : List TxnId
  pub turn_is : turn_in plan place ≡ Some (record { id = id; step = recover_of id txn; rest = rest })

-- the first recover, which drew the ballot, and its drain have led from one place to the other
pub record TookFirst (plan : Content) (number : ℕ) (drawn : Option Ballot) (place now : Place) : Type 0 where
  pub number_is : now.number ≡ number
  pub stage_is : (turn : Turn) → turn_in plan place ≡ Some turn → now.stage ≡ stage_after_first turn drawn now.items
  pub later : List Item
  pub items_are : now.items ≡ later ++ place.items

-- the second recover of this transaction is due there
pub record IsSecond (number : ℕ) (id : TxnId) (txn : ℕ) (place : Place) : Type 0 where
  pub number_is : place.number ≡ number
  pub rest : List TxnId
  pub stage_is : place.stage ≡ Repeats (record { id = id; step = recover_of id txn; rest = rest })

-- it and its drain have led from one place to the other
pub record TookSecond (number : ℕ) (place now : Place) : Type 0 where
  pub number_is : now.number ≡ number
  pub stage_is : (turn : Turn) → place.stage ≡ Repeats turn → now.stage ≡ Turns turn.rest
  pub later : List Item
  pub items_are : now.items ≡ later ++ place.items

-- the turn of this transaction is due there, and the tables are those of the oldest items
pub record IsTurnOf (plan : Content) (number : ℕ) (id : TxnId) (txn : ℕ) (seen : Seen) (place : Place) : Type 0 where
  pub first : IsFirst plan number id txn place
  pub tells : TellsOldest seen place.items

-- the turn has led from one place to the other, where the turns after it are left
pub record TookTurn (plan : Content) (number : ℕ) (seen : Seen) (place now : Place) : Type 0 where
  pub number_is : now.number ≡ number
  pub stage_is : (turn : Turn) → turn_in plan place ≡ Some turn → now.stage ≡ Turns turn.rest
  pub later : List Item
  pub items_are : now.items ≡ later ++ place.items
  pub tells : TellsOldest seen now.items

-- the turns of these transactions, by their ids and numbers, are left there, beside some that are passed over
pub record IsLeft (plan : Content) (number : ℕ) (left : List (TxnId × ℕ)) (seen : Seen) (place : Place) : Type 0 where
  pub number_is : place.number ≡ number
  pub ids : List TxnId
  pub stage_is : place.stage ≡ Turns ids
  pub same : next_turn (cluster_of plan) place.items ids ≡ next_turn (cluster_of plan) place.items (map (λ (one : TxnId × ℕ). one.0) left)
  pub numbers : AllByRecursion (λ (one : TxnId × ℕ). txn_of place.items one.0 ≡ Some one.1) left
  pub tells : TellsOldest seen place.items

-- ---- over any disks, and over strict ones

abbrev pub At : Bool → Type 0
At false = Situation
At true = StrictSituation

abbrev pub found_in : (strictly : Bool) → At strictly → Situation
found_in false s = s
found_in true s = s.found

abbrev pub moving_over : (strictly : Bool) → Content → Answers → Moving (At strictly)
moving_over false plan answers = moving_with plan answers
moving_over true plan answers = moving_strictly plan

abbrev pub beginning_over : (strictly : Bool) → Content → At strictly → Standing (At strictly)
beginning_over false plan s = beginning plan s
beginning_over true plan s = beginning_strictly plan s

-- the plan's steps lead to this
abbrev pub RunsTo : (strictly : Bool) → Content → Answers → At strictly → Type 0
RunsTo false plan answers s = Follows (cluster_of plan) answers 0 plan.steps (opened []) s
RunsTo true plan answers s = FollowsStrictly (cluster_of plan) 0 plan.steps (opened_strictly []) s

abbrev pub StandsOver : {D : Type 0} (strictly : Bool) → Ghosts D → Content → Cluster D → At strictly → Type 0
StandsOver false port plan cluster s = StandsFor port plan cluster s
StandsOver true port plan cluster s = StandsStrictly port plan cluster s

-- some answers, or over strict disks the plan alone, make the limit end the run with its healing
abbrev pub LimitEndsOver : Bool → Content → Which → ℕ → Type 0
LimitEndsOver false plan which most = (answers : Answers) × (front : List Item) × LimitEndsWithHealing plan answers front which most
LimitEndsOver true plan which most = (front : List Item) × StrictLimitEndsWithHealing plan front which most

-- ---- the cluster in its place

-- the plan's run leads to what it was between run and healing, and due steps from there to this place
pub record IsHealingAt {D : Type 0} (strictly : Bool) (port : Ghosts D) (plan : Content) (between : At strictly) (cluster : Cluster D) (place : Place) : Type 0 where
  pub answers : Answers
  pub follows : RunsTo strictly plan answers between
  pub steps : List Step
  pub at : At strictly
  pub goes :
      Goes (moving_over strictly plan answers) (length plan.steps) steps (beginning_over strictly plan between) (record { stage = place.stage; at = at })
  pub numbered : place.number ≡ length plan.steps + length steps
  pub items_are : (found_in strictly at).own ≡ place.items
  pub alone : (found_in strictly at).earlier ≡ []
  pub stands : StandsOver strictly port plan cluster at

-- in a place of this kind
pub record StandsIn {D : Type 0} (port : Ghosts D) (plan : Content) (cluster : Cluster D) (Before : Place → Type 0) : Type 0 where
  pub between : Situation
  pub place : Place
  pub before : Before place
  pub healing : IsHealingAt false port plan between cluster place

-- whatever place of the first kind it stood in, due steps lead from there to one of the second kind
abbrev pub Leads : {D : Type 0} → Ghosts D → Content → Cluster D → Cluster D → (Place → Type 0) → (Place → Place → Type 0) → Type 0
Leads {D} port plan old new Before After =
    (strictly : Bool) (between : At strictly) (place : Place) → Before place → IsHealingAt strictly port plan between old place
    → (now : Place) × After place now × IsHealingAt strictly port plan between new now

-- or the limit ends the healing on the way
abbrev pub EndsWithin : {D : Type 0} → Ghosts D → Content → Cluster D → (Place → Type 0) → Which → ℕ → Type 0
EndsWithin port plan old Before which most =
    (strictly : Bool) (between : At strictly) (place : Place) → Before place → IsHealingAt strictly port plan between old place
    → LimitEndsOver strictly plan which most
