-- What is left of a cluster.
use Rattle.std.specs.Prelude.{◌≡◌, ℕ, ◌+◌, ◌≤◌, Bool, List, [], ◌∷◌, ◌++◌, map, reverse, Contains}
use Rattle.std.specs.List.{AllByRecursion}
use Rattle.acc_stamp.specs.declared.actors.Actor.{Actor}
use Rattle.acc_ports.specs.declared.disk.Disk.{Ghosts}
use Rattle.acc_journal.specs.Layout.{Reads}
use Rattle.acc_message.specs.declared.item.Item.{Item}
use Rattle.acc_payloads.specs.Items.{payloads_in, downs_in, without_marks, AreMarked}
use Rattle.acc_durable_node.specs.Actor as node
use Rattle.acc_durable_store.specs.Actor as store
use Rattle.acc_schedule.specs.Actors.{actors}
use Rattle.acc_schedule.specs.Content.{Content}
use Rattle.acc_schedule_runs.specs.Situations.{Situation, whole}
use Rattle.acc_schedule_runs.specs.Moves.{kept_if, with_kept}
use Rattle.acc_schedule_runs.specs.Schedules.{cluster_of}
use Rattle.acc_actors.specs.declared.slot.Slot.{Slot}
use Rattle.acc_actors.specs.declared.slot.Slot.TheVariants.{Empty, Node, Store}
use Rattle.acc_cluster.specs.declared.ending.Ended.{Ended}

-- ---- the disks of slots

abbrev pub entry_of : {D : Type 0} → ℕ → Slot D → List (Actor × D)
entry_of number Empty = []
entry_of number (Node n) = (record { 0 = number }, node.disk_of n) ∷ []
entry_of number (Store t) = (record { 0 = number }, store.disk_of t) ∷ []

-- each with its number, from this one on
abbrev pub disks_from : {D : Type 0} → ℕ → List (Slot D) → List (Actor × D)
disks_from number [] = []
disks_from number (slot ∷ slots) = entry_of number slot ++ disks_from (number + 1) slots

-- ---- what a disk keeps

-- An image reads as the payloads of the actor's entries, with those of the steps that a fault of its disk stopped, if it kept them: all or
-- none. It breaks no rule on marks.
pub record HoldsIn (plan : Content) (s : Situation) (a : Actor) (image : List ℕ) : Type 0 where
  pub payloads : List (List ℕ)
  pub reads : Reads image payloads
  pub marks : AreMarked plan.version payloads
  pub keeps : Bool
  pub kept : without_marks payloads ≡ payloads_in a (whole (with_kept (cluster_of plan) s a (kept_if keeps a s)))

-- A disk keeps its actor in a situation: it has counted as many faults as the actor went down, or more, and each of its images holds the
-- actor's payloads.
pub record KeepsIn {D : Type 0} (port : Ghosts D) (plan : Content) (s : Situation) (entry : Actor × D) : Type 0 where
  pub counted : downs_in entry.0 s.own ≤ (port.state entry.1).faults
  pub each : (image : List ℕ) → port.is_image entry.1 image → HoldsIn plan s entry.0 image

-- ---- the whole

abbrev pub Rises : {D : Type 0} → ℕ → List (Actor × D) → Type 0
Rises least [] = Unit {0}
Rises least (entry ∷ entries) = (least ≤ entry.0.0) × Rises (entry.0.0 + 1) entries

-- a disk of each actor of the plan, in rising order of the actors
pub record AreDisksOf {D : Type 0} (plan : Content) (disks : List (Actor × D)) : Type 0 where
  pub rise : Rises 0 disks
  pub known : AllByRecursion (λ (entry : Actor × D). Contains (actors plan.topology) entry.0) disks
  pub each : (a : Actor) → Contains (actors plan.topology) a → Contains (map (λ (entry : Actor × D). entry.0) disks) a

-- these items, newest first, and the disks of the plan's actors, each of which keeps its actor in the situation
pub record IsEndOf {D : Type 0} (port : Ghosts D) (plan : Content) (items : List Item) (s : Situation) (ended : Ended D) : Type 0 where
  pub items_are : ended.items ≡ reverse items
  pub disks_are : AreDisksOf plan ended.disks.items
  pub kept : AllByRecursion (KeepsIn port plan s) ended.disks.items
