-- Actors that were opened from journals.
use Rattle.std.specs.Prelude.{◌≡◌, ℕ, false, List, map, Contains}
use Rattle.std.specs.List.{AllByRecursion}
use Rattle.acc_ports.specs.declared.disk.Disk.{Ghosts}
use Rattle.acc_ports.specs.Disk.{IsAtRest}
use Rattle.acc_ports.specs.MemoryDisk.{MemoryDisk, state_of, IsImageOf, WasImage}
use Rattle.acc_message.specs.Run.{is_node}
use Rattle.acc_schedule.specs.Actors.{actors, stores_from}
use Rattle.acc_schedule.specs.Content.{Content}
use Rattle.acc_durable_node.specs.declared.node.DurableNode.{DurableNode}
use Rattle.acc_durable_store.specs.declared.store.DurableStore.{DurableStore}
use Rattle.acc_durable_store.specs.Store as store
use Rattle.acc_actors.specs.Opened.{HasDone, HasTaken, IsUnarmed}
use Rattle.acc_cluster.specs.Opened.{IsNodeOf, IsStoreOf}
use Rattle.acc_cluster.specs.Safe.{HasLowPast, TookLow}
use Rattle.acc_left.specs.declared.image.Image.{Image}
use Rattle.acc_resume.specs.Resumed.{OfEachRun}

-- what contracts see of disks in memory
abbrev pub memory : Ghosts MemoryDisk
memory = record { state = state_of; is_image = λ disk. IsImageOf disk.now; was_image = WasImage }

-- a strict disk with these bytes and nothing else, on which nothing is armed
pub record HoldsJournal {D : Type 0} (port : Ghosts D) (bytes : List ℕ) (disk : D) : Type 0 where
  pub content : (port.state disk).content ≡ bytes
  pub rest : IsAtRest (port.state disk) (port.is_image disk)
  pub unarmed : IsUnarmed port disk

-- A node of the plan that stands for some past of low heights. After each run that left the journals it stands for its
-- part there.
pub record IsOpenedNode {D : Type 0} (port : Ghosts D) (plan : Content) (images : List Image) (number : ℕ) (n : DurableNode D) : Type 0 where
  pub number_is : n.name.number ≡ number
  pub of_plan : IsNodeOf port plan n
  pub unarmed : IsUnarmed port n.journal.disk
  pub low : HasLowPast plan n
  pub did : OfEachRun plan images (λ earlier. HasDone plan earlier n)

-- the same of a store, where its actor is one of the plan
pub record IsOpenedStore {D : Type 0} (port : Ghosts D) (plan : Content) (images : List Image) (t : DurableStore D) : Type 0 where
  pub kind : is_node (store.actor_in t) ≡ false
  pub of_plan : IsStoreOf port plan t
  pub unarmed : IsUnarmed port t.journal.disk
  pub low : TookLow plan t
  pub took : Contains (actors plan.topology) (store.actor_in t) → OfEachRun plan images (λ earlier. HasTaken plan earlier t)

-- a node for each node of the plan, in rising order
pub record AreOpenedNodes {D : Type 0} (port : Ghosts D) (plan : Content) (images : List Image) (nodes : List (DurableNode D)) : Type 0 where
  pub numbers : map (λ (n : DurableNode D). n.name.number) nodes ≡ plan.topology.nodes
  pub each : AllByRecursion (λ (n : DurableNode D). IsOpenedNode port plan images n.name.number n) nodes

-- a store for each replica of each shard, in the order of the shards
pub record AreOpenedStores {D : Type 0} (port : Ghosts D) (plan : Content) (images : List Image) (stores : List (DurableStore D)) : Type 0 where
  pub actors_are : map store.actor_in stores ≡ stores_from 1 plan.topology.shards
  pub each : AllByRecursion (IsOpenedStore port plan images) stores
