-- When a cluster may be asked with tests.
use Rattle.std.specs.Prelude.{ℕ, ◌+◌, List, length}
use Rattle.std.specs.List.{AllByRecursion}
use Rattle.acc_stamp.specs.declared.actors.Actor.{Actor}
use Rattle.acc_ports.specs.declared.disk.Disk.{Ghosts}
use Rattle.acc_schedule.specs.Content.{Content}
use Rattle.acc_schedule_runs.specs.Situations.{Situation}
use Rattle.acc_actors.specs.declared.slot.Slot.{Slot}
use Rattle.acc_durable_node.specs.declared.node.DurableNode.{DurableNode}
use Rattle.acc_durable_store.specs.declared.store.DurableStore.{DurableStore}
use Rattle.acc_cluster.specs.declared.cluster.Cluster.{Cluster}
use Rattle.acc_cluster.specs.Entering.{IsPastOf, HasPlace}
use Rattle.acc_cluster.specs.Safe.{most_opened, IsSafe, HasLowPast, TookLow}
use Rattle.acc_cluster.specs.Stands.{slot_at}

-- the greatest height in a situation: each item raises it by one at most
abbrev pub most_in : Situation → ℕ
most_in s = most_opened + length s.own

-- each actor in its slot stands for some past of its own, whose heights are so low
abbrev pub AreSafe : {D : Type 0} → Ghosts D → Content → ℕ → List (Slot D) → Type 0
AreSafe port plan most slots = (a : Actor) → IsSafe port plan most a (slot_at slots a)

-- The history has own items within the limits, after items that no run need have entered. Each actor stands for some past of its own.
pub record IsTested {D : Type 0} (port : Ghosts D) (plan : Content) (cluster : Cluster D) : Type 0 where
  pub entered : Situation
  pub past : IsPastOf cluster.history entered
  pub safe : AreSafe port plan (most_in entered) cluster.slots.items

-- the same with a place for one item more
pub record HasTestedPlace {D : Type 0} (port : Ghosts D) (plan : Content) (cluster : Cluster D) : Type 0 where
  pub tested : IsTested port plan cluster
  pub place : HasPlace tested.entered

-- each of the actors stands for some past of low heights
pub record HaveLowPasts {D : Type 0} (plan : Content) (nodes : List (DurableNode D)) (stores : List (DurableStore D)) : Type 0 where
  pub nodes_did : AllByRecursion (HasLowPast {D = D} plan) nodes
  pub stores_did : AllByRecursion (TookLow {D = D} plan) stores
