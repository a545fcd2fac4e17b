-- When a cluster stands for a situation.
--     StandsFor images faults plan cluster s      its history does, and so does each actor of the plan with its disk
--     StandsStrictly ..      the same over strict disks, on which is known what is armed
use Rattle.std.specs.Prelude.{ℕ, List, Contains}
use Rattle.std.specs.List.{slice_index_or}
use Rattle.acc_stamp.specs.declared.actors.Actor.{Actor}
use Rattle.acc_ports.specs.declared.disk.Disk.{Ghosts}
use Rattle.acc_schedule.specs.Actors.{actors}
use Rattle.acc_schedule.specs.Content.{Content}
use Rattle.acc_pasts.specs.Stopped.{IsSound}
use Rattle.acc_schedule_runs.specs.Situations.{Situation}
use Rattle.acc_schedule_runs.specs.Schedules.{cluster_of}
use Rattle.acc_schedule_runs.specs.Disks.{Disks}
use Rattle.acc_schedule_runs.specs.StrictMoves.{StrictSituation}
use Rattle.acc_actors.specs.declared.slot.Slot.{Slot}
use Rattle.acc_actors.specs.declared.slot.Slot.TheVariants.{Empty}
use Rattle.acc_actors.specs.Asked.{HasRoom}
use Rattle.acc_actors.specs.Slots.{SlotStands, IsStrictSlot, faults_in, IsTaken}
use Rattle.acc_cluster.specs.declared.cluster.Cluster.{Cluster}
use Rattle.acc_cluster.specs.Entering.{IsPastOf}

-- the slot of an actor
abbrev pub slot_at : {D : Type 0} → List (Slot D) → Actor → Slot D
slot_at slots a = slice_index_or slots a.0 Empty

-- how many faults the disk of an actor has counted
abbrev pub faults_at : {D : Type 0} → Ghosts D → Cluster D → Actor → ℕ
faults_at port cluster a = faults_in port (slot_at cluster.slots.items a)

-- ---- the actors

-- each actor of the plan stands at its number, and none at other numbers
pub record AreActors {D : Type 0} (port : Ghosts D) (plan : Content) (slots : List (Slot D)) (s : Situation) : Type 0 where
  pub each : (a : Actor) → Contains (actors plan.topology) a → SlotStands port plan s a (slot_at slots a)
  pub only : (a : Actor) → IsTaken (slot_at slots a) → Contains (actors plan.topology) a

-- and all disks are strict
abbrev pub AreStrict : {D : Type 0} → Ghosts D → Content → List (Slot D) → Situation → Disks → Type 0
AreStrict port plan slots s disks =
    (a : Actor) → Contains (actors plan.topology) a → IsStrictSlot port plan s disks a (slot_at slots a)

-- ---- the whole

pub record StandsFor {D : Type 0} (port : Ghosts D) (plan : Content) (cluster : Cluster D) (s : Situation) : Type 0 where
  pub sound : IsSound (cluster_of plan) s
  pub room : HasRoom s
  pub past : IsPastOf cluster.history s
  pub actors : AreActors port plan cluster.slots.items s

pub record StandsStrictly {D : Type 0} (port : Ghosts D) (plan : Content) (cluster : Cluster D) (s : StrictSituation) : Type 0 where
  pub stands : StandsFor port plan cluster s.found
  pub strictly : AreStrict port plan cluster.slots.items s.found s.disks
