-- Actors that have done nothing, over new disks.
use Rattle.std.specs.Prelude.{◌≡◌, false, List, [], map}
use Rattle.std.specs.List.{AllByRecursion}
use Rattle.acc_ports.specs.declared.disk.Disk.{Ghosts}
use Rattle.acc_message.specs.Run.{is_node}
use Rattle.acc_schedule.specs.Actors.{stores_from}
use Rattle.acc_schedule.specs.Content.{Content}
use Rattle.acc_durable_node.specs.declared.node.DurableNode.{DurableNode}
use Rattle.acc_durable_store.specs.declared.store.DurableStore.{DurableStore}
use Rattle.acc_durable_store.specs.Store as store
use Rattle.acc_actors.specs.Opened.{HasDone, HasTaken}
use Rattle.acc_cluster.specs.Opened.{IsNodeOf, IsStoreOf}

pub record IsFreshNode {D : Type 0} (port : Ghosts D) (plan : Content) (n : DurableNode D) : Type 0 where
  pub of_plan : IsNodeOf port plan n
  pub did_nothing : HasDone plan [] n

pub record IsFreshStore {D : Type 0} (port : Ghosts D) (plan : Content) (t : DurableStore D) : Type 0 where
  pub of_plan : IsStoreOf port plan t
  pub took_nothing : HasTaken plan [] t
  pub kind : is_node (store.actor_in t) ≡ false

-- a node for each node of the plan, in rising order
pub record AreFreshNodes {D : Type 0} (port : Ghosts D) (plan : Content) (nodes : List (DurableNode D)) : Type 0 where
  pub numbers : map (λ (n : DurableNode D). n.name.number) nodes ≡ plan.topology.nodes
  pub each : AllByRecursion (IsFreshNode port plan) nodes

-- a store for each replica of each shard, in the order of the shards
pub record AreFreshStores {D : Type 0} (port : Ghosts D) (plan : Content) (stores : List (DurableStore D)) : Type 0 where
  pub actors_are : map store.actor_in stores ≡ stores_from 1 plan.topology.shards
  pub each : AllByRecursion (IsFreshStore port plan) stores
