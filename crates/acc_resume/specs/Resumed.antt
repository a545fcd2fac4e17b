-- What a plan's steps enter after an earlier run, whose journals the actors were opened from.
--     OfEachRun plan images Holds      a fact of each run that left these journals, once its actors are opened from them
--     GoesOnTo plan earlier items      the items of the plan's steps after that run
--     ALimitEndsAfter plan earlier which number      a limit ends these steps
use Rattle.std.specs.Prelude.{◌≡◌, ℕ, Bool, List}
use Rattle.acc_stamp.specs.declared.actors.Actor.{Actor}
use Rattle.acc_message.specs.declared.error.Which.{Which}
use Rattle.acc_message.specs.declared.item.Item.{Item}
use Rattle.acc_message.specs.Run.{IsRun}
use Rattle.acc_safety.specs.Agreement.{Agreement}
use Rattle.acc_safety.specs.Coverage.{Coverage}
use Rattle.acc_safety.specs.SerialOutcomes.{SerialOutcomes}
use Rattle.acc_schedule.specs.Content.{Content}
use Rattle.acc_schedule_runs.specs.Situations.{Situation, joined}
use Rattle.acc_schedule_runs.specs.Schedules.{cluster_of}
use Rattle.acc_schedule_runs.specs.StrictMoves.{StrictSituation, opened_strictly}
use Rattle.acc_schedule_runs.specs.StrictSchedules.{FollowsStrictly}
use Rattle.acc_schedule_runs.specs.StrictFronts.{StrictlyReaches}
use Rattle.acc_schedule_runs.specs.Fronts.{Begins}
use Rattle.acc_schedule_runs.specs.Limits.{EndsAt, IsWithin}
use Rattle.acc_left.specs.declared.image.Image.{Image}
use Rattle.acc_left_laws.specs.Left.{HasLeft, HasRoomAfter, reopened_run}

-- A fact of each run that left these journals, with each actor opened from its journal in turn, where there is room
-- for the items of one more.
abbrev pub OfEachRun : Content → List Image → (List Item → Type 0) → Type 0
OfEachRun plan images Holds =
    (s : Situation) (keeps : Actor → Bool) → HasLeft plan s keeps images → HasRoomAfter (reopened_run plan s keeps) → Holds (reopened_run plan s keeps)

-- ---- items

-- The items, newest first, are those of the plan's steps over strict disks, in a cluster that was opened after the
-- earlier run, and within the limits. Both together are one run, in which agreement, coverage and serial outcomes
-- hold.
pub record GoesOnTo (plan : Content) (earlier items : List Item) : Type 0 where
  pub last : StrictSituation
  pub follows : FollowsStrictly (cluster_of plan) 0 plan.steps (opened_strictly earlier) last
  pub items_are : items ≡ last.found.own
  pub within : IsWithin items
  pub run : IsRun (cluster_of plan) (joined earlier items)
  pub agreement : Agreement (joined earlier items)
  pub coverage : Coverage (cluster_of plan) (joined earlier items)
  pub serial : SerialOutcomes (cluster_of plan) (joined earlier items)

-- ---- a limit

-- the items are a front of those of the plan's steps over strict disks, after the earlier run
pub record IsFrontAfter (plan : Content) (earlier items : List Item) : Type 0 where
  pub reached : StrictSituation
  pub reaches : StrictlyReaches (cluster_of plan) 0 plan.steps (opened_strictly earlier) reached
  pub begins : Begins items reached.found.own

-- the limit ends the plan's steps after these items
abbrev pub LimitEndsAfter : Content → List Item → List Item → Which → ℕ → Type 0
LimitEndsAfter plan earlier items which number = EndsAt (IsFrontAfter plan earlier) items which number

abbrev pub ALimitEndsAfter : Content → List Item → Which → ℕ → Type 0
ALimitEndsAfter plan earlier which number = (items : List Item) × LimitEndsAfter plan earlier items which number
