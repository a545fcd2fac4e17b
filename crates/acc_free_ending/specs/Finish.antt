-- From what actors entered by themselves to items that are served.
use Rattle.std.specs.Prelude.{◌≡◌, Bool, true, List, ◌++◌, reverse, map}
use Rattle.std.specs.List.{AllByRecursion}
use Rattle.acc_ports.specs.declared.disk.Disk.{Ghosts}
use Rattle.acc_message.specs.declared.item.Item.{Item}
use Rattle.acc_schedule.specs.Content.{Content}
use Rattle.acc_schedule_runs.specs.Situations.{Stopped, Situation}
use Rattle.acc_schedule_runs.specs.Laws.{NobodyIsDown}
use Rattle.acc_schedule_runs.specs.Disks.{fresh_disks}
use Rattle.acc_schedule_runs.specs.Limits.{IsWithin}
use Rattle.acc_cluster.specs.declared.ending.Ended.{Ended}
use Rattle.acc_cluster.specs.Ends.{KeepsIn, AreDisksOf}
use Rattle.acc_cluster.specs.Limits.{IsMoveAhead}
use Rattle.acc_cluster.specs.Over.{behind_items, IsOver, AreStrictSlots}
use Rattle.acc_free_laws.specs.Served.{IsServed}
use Rattle.acc_free_laws.specs.Serving.{IsServing, HasGone}
use Rattle.acc_free_ending.specs.declared.rest.Rest.{Rest}
use Rattle.acc_free_ending.specs.Queues.{placed_in, queue_in, left_in}

-- Each actor stands in its slot for its part in the items, the oldest first, which are a free run within the limits, and all its commands
-- but those that are left went by.
pub record AreResting {D : Type 0} (port : Ghosts D) (plan : Content) (rests : List (Rest D)) (entered : List Item) (stopped : List Stopped) : Type 0 where
  pub over : IsOver port plan (map placed_in rests) entered stopped
  pub serving : IsServing plan (behind_items entered stopped)
  pub gone : AllByRecursion (λ (rest : Rest D). HasGone plan (behind_items entered stopped) rest.actor (left_in (queue_in rest))) rests

-- The items begin with those that were entered, are served, and are within the limits; the disks are those of the actors, rising, and
-- each keeps its actor in the situation that the items came to.
pub record HasFinished {D : Type 0} (port : Ghosts D) (plan : Content) (entered : List Item) (ended : Ended D) : Type 0 where
  pub later : List Item
  pub items_are : ended.items ≡ entered ++ later
  pub served : IsServed plan (reverse ended.items)
  pub within : IsWithin (reverse ended.items)
  pub disks_are : AreDisksOf plan ended.disks.items
  pub last : Situation
  pub serving : IsServing plan last
  pub last_is : reverse ended.items ≡ last.own
  pub kept : AllByRecursion (KeepsIn port plan last) ended.disks.items

-- A limit kept further items out. The items begin with those that were entered. The disks are those of the actors, rising, and each keeps
-- its actor in a situation that free steps came to: it has these items, or is a move ahead of them.
pub record HasStopped {D : Type 0} (port : Ghosts D) (plan : Content) (entered : List Item) (ended : Ended D) : Type 0 where
  pub later : List Item
  pub items_are : ended.items ≡ entered ++ later
  pub reached : Situation
  pub serving : IsServing plan reached
  pub ahead : IsMoveAhead (reverse ended.items) reached.own
  pub disks_are : AreDisksOf plan ended.disks.items
  pub kept : AllByRecursion (KeepsIn port plan reached) ended.disks.items

-- Such actors, after turns that they took by themselves. Where all their disks are strict and nothing was armed on any, nobody went down.
pub record HaveRested {D : Type 0} (port : Ghosts D) (strict_run : Bool) (plan : Content) (rests : List (Rest D)) (entered : List Item) : Type 0 where
  pub stopped : List Stopped
  pub resting : AreResting port plan rests entered stopped
  pub strictly : strict_run ≡ true
      → AreStrictSlots port plan (behind_items entered stopped) fresh_disks (map placed_in rests)
  pub up : strict_run ≡ true → NobodyIsDown (reverse entered)
