-- A cluster over actors that stand already, after the items in which they took part.
use Rattle.std.specs.Prelude.{List, [], reverse, map, Contains}
use Rattle.std.specs.List.{AllByRecursion}
use Rattle.acc_stamp.specs.declared.actors.Actor.{Actor}
use Rattle.acc_ports.specs.declared.disk.Disk.{Ghosts}
use Rattle.acc_message.specs.declared.item.Item.{Item}
use Rattle.acc_schedule.specs.Actors.{actors}
use Rattle.acc_schedule.specs.Content.{Content}
use Rattle.acc_pasts.specs.Stopped.{IsSound}
use Rattle.acc_schedule_runs.specs.Situations.{Stopped, Situation}
use Rattle.acc_schedule_runs.specs.Schedules.{cluster_of}
use Rattle.acc_schedule_runs.specs.Disks.{Disks}
use Rattle.acc_schedule_runs.specs.Limits.{IsWithin}
use Rattle.acc_history.specs.declared.history.History.{History}
use Rattle.acc_history.specs.Stands as history
use Rattle.acc_actors.specs.declared.slot.Slot.{Slot}
use Rattle.acc_actors.specs.Slots.{SlotStands, IsStrictSlot, IsTaken}
use Rattle.acc_cluster.specs.Stands.{slot_at}

-- these items, the oldest first, after no earlier run, and the steps that faults of disks stopped; nothing was dropped
abbrev pub behind_items : List Item → List Stopped → Situation
behind_items items stopped = record { earlier = []; own = reverse items; dropped = []; stopped = stopped }

-- ---- the actors

abbrev pub actor_in : {D : Type 0} → Actor × Slot D → Actor
actor_in one = one.0

-- slots of actors of the plan, and of each of them
pub record AreSlotsOf {D : Type 0} (plan : Content) (slots : List (Actor × Slot D)) : Type 0 where
  pub known : AllByRecursion (λ (one : Actor × Slot D). Contains (actors plan.topology) one.0) slots
  pub each : (a : Actor) → Contains (actors plan.topology) a → Contains (map actor_in slots) a

-- each actor stands for its part in the items, which are a run within the limits
pub record IsOver {D : Type 0} (port : Ghosts D) (plan : Content) (slots : List (Actor × Slot D)) (items : List Item) (stopped : List Stopped) : Type 0 where
  pub sound : IsSound (cluster_of plan) (behind_items items stopped)
  pub within : IsWithin (reverse items)
  pub stand : AllByRecursion (λ (one : Actor × Slot D). SlotStands port plan (behind_items items stopped) one.0 one.1) slots

-- over strict disks, on which is known what is armed
abbrev pub AreStrictSlots : {D : Type 0} → Ghosts D → Content → Situation → Disks → List (Actor × Slot D) → Type 0
AreStrictSlots {D} port plan s disks slots =
    AllByRecursion (λ (one : Actor × Slot D). IsStrictSlot port plan s disks one.0 one.1) slots

-- ---- how they are put together

-- the slots stand at the numbers of their actors, and nothing else does
pub record ArePlaced {D : Type 0} (slots : List (Actor × Slot D)) (placed : List (Slot D)) : Type 0 where
  pub there : AllByRecursion (λ (one : Actor × Slot D). IsTaken one.1) slots → AllByRecursion (λ (one : Actor × Slot D). IsTaken (slot_at placed one.0)) slots
  pub known : (a : Actor) → IsTaken (slot_at placed a) → Contains slots (a, slot_at placed a)

pub record IsHistoryOver (items : List Item) (stopped : List Stopped) (h : History) : Type 0 where
  pub stands : history.StandsFor h (behind_items items stopped)
  pub weighed : history.IsWeighed h (behind_items items stopped)
