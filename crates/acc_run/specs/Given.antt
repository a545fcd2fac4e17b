-- The disks that a run gives back.
use Rattle.std.specs.Prelude.{◌≡◌, ◌⊎◌, ℕ, List, [], ◌++◌, map, length}
use Rattle.std.specs.List.{AllByRecursion}
use Rattle.acc_stamp.specs.declared.actors.Actor.{Actor}
use Rattle.acc_ports.specs.declared.disk.Disk.{Ghosts}
use Rattle.acc_message.specs.declared.error.Which.{Which}
use Rattle.acc_message.specs.declared.item.Item.{Item}
use Rattle.acc_schedule.specs.Content.{Content}
use Rattle.acc_schedule.specs.declared.plan.Step.{Step}
use Rattle.acc_schedule_runs.specs.Situations.{Situation, opened}
use Rattle.acc_schedule_runs.specs.Moves.{Answers}
use Rattle.acc_schedule_runs.specs.Schedules.{cluster_of, Follows, Obeys}
use Rattle.acc_schedule_runs.specs.Laws.{AgreeBelow}
use Rattle.acc_schedule_runs.specs.Fronts.{Reaches, LimitEnds}
use Rattle.acc_cluster.specs.Limits.{IsMoveAhead}
use Rattle.acc_cluster.specs.Ends.{KeepsIn, AreDisksOf}

-- a disk under its actor's number
abbrev pub numbered : {D : Type 0} → Actor × D → ℕ × D
numbered entry = (entry.0.0, entry.1)

-- After what was given before stands a disk for each actor of the plan, under the actor's number and in rising order, and each keeps its
-- actor in the situation.
pub record GivesBack {D : Type 0} (port : Ghosts D) (plan : Content) (s : Situation) (before after : List (ℕ × D)) : Type 0 where
  pub disks : List (Actor × D)
  pub given : after ≡ before ++ map numbered disks
  pub disks_are : AreDisksOf plan disks
  pub kept : AllByRecursion (KeepsIn port plan s) disks

-- The items, newest first, are those of the schedule with some answers of the disks. These came back, each keeping its actor where the
-- schedule ends.
pub record HasRun {D : Type 0} (port : Ghosts D) (plan : Content) (items : List Item) (before after : List (ℕ × D)) : Type 0 where
  pub answers : Answers
  pub obeys : Obeys plan answers items
  pub back : GivesBack port plan obeys.last before after

-- with these answers the run comes to the situation: after whole steps, or inside one
abbrev pub IsReached : Content → Answers → Situation → Type 0
IsReached plan answers s =
    ((done : List Step) × (left : List Step) × (plan.steps ≡ done ++ left) × Follows (cluster_of plan) answers 0 done (opened []) s)
    ⊎ Reaches (cluster_of plan) answers 0 plan.steps (opened []) s

-- With some answers of the disks the run comes to a situation: to these items, or a move ahead of them, if a disk took a step that the
-- limit keeps out. The limit ends the run of the schedule after these items, whatever disks answer from there on. The disks came back, each
-- keeping its actor there.
pub record HasStopped {D : Type 0} (port : Ghosts D) (plan : Content) (items : List Item) (which : Which) (number : ℕ) (before after : List (ℕ × D)) : Type 0 where
  pub answers : Answers
  pub reached : Situation
  pub is_reached : IsReached plan answers reached
  pub ends : (more : Answers) → AgreeBelow answers more (length reached.own) → LimitEnds plan more items which number
  pub ahead : IsMoveAhead items reached.own
  pub back : GivesBack port plan reached before after
