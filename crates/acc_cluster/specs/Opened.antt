-- What a cluster begins with.
use Rattle.std.specs.Prelude.{◌≡◌, ℕ, false, List, [], ◌++◌, map, Option, Some, Contains}
use Rattle.std.specs.List.{AllByRecursion}
use Rattle.acc_stamp.specs.declared.actors.Actor.{Actor}
use Rattle.acc_stamp.specs.declared.stamps.TxnId.{TxnId}
use Rattle.acc_stamp.specs.Actor.{actor_of}
use Rattle.acc_ports.specs.declared.disk.Disk.{Ghosts}
use Rattle.acc_journal.specs.Layout.{Reads}
use Rattle.acc_message.specs.declared.item.Item.{Item}
use Rattle.acc_message.specs.Items.{is_begun, id_of_txn}
use Rattle.acc_message.specs.Run.{is_node, is_down}
use Rattle.acc_schedule.specs.Actors.{actors}
use Rattle.acc_schedule.specs.Content.{Content}
use Rattle.acc_durable_node.specs.declared.node.DurableNode.{DurableNode}
use Rattle.acc_durable_store.specs.declared.store.DurableStore.{DurableStore}
use Rattle.acc_durable_store.specs.Store as store
use Rattle.acc_pasts.specs.Stopped.{IsSound}
use Rattle.acc_schedule_runs.specs.Situations.{opened}
use Rattle.acc_schedule_runs.specs.Schedules.{cluster_of}
use Rattle.acc_history.specs.Begun.{begun_as, known_as}
use Rattle.acc_schedule_runs.specs.Disks.{fresh_disks}
use Rattle.acc_actors.specs.Asked.{HasRoom}
use Rattle.acc_actors.specs.Opened.{HasDone, HasTaken, IsUnarmed}
use Rattle.acc_actors.specs.Slots.{SlotStands, IsStrictSlot, IsTaken, node_name}
use Rattle.acc_actors.specs.declared.slot.Slot.{Slot}
use Rattle.acc_cluster.specs.Safe.{most_opened, IsSafe, HasLowPast, TookLow}
use Rattle.acc_cluster.specs.Stands.{slot_at}

-- a durable node of the plan that isn't broken, and whose disk keeps its journal
pub record IsNodeOf {D : Type 0} (port : Ghosts D) (plan : Content) (n : DurableNode D) : Type 0 where
  pub sound : n.journal.broken ≡ false
  pub named : n.name ≡ node_name plan n.name.number
  pub lasts : (image : List ℕ) → port.is_image n.journal.disk image → Reads image n.journal.payloads

-- a durable store of the plan, with nothing staged
pub record IsStoreOf {D : Type 0} (port : Ghosts D) (plan : Content) (t : DurableStore D) : Type 0 where
  pub sound : t.journal.broken ≡ false
  pub none_staged : t.journal.group ≡ []
  pub version_is : t.version ≡ plan.version
  pub lasts : (image : List ℕ) → port.is_image t.journal.disk image → Reads image t.journal.payloads

-- a store has the number of a store of the plan
pub record IsStoreNumber {D : Type 0} (plan : Content) (t : DurableStore D) : Type 0 where
  pub member : Contains (actors plan.topology) (store.actor_in t)
  pub kind : is_node (store.actor_in t) ≡ false

-- The actors of the plan: a node for each of its nodes, in rising order, and stores, among which each of its stores is.
pub record AreActorsOf {D : Type 0} (plan : Content) (nodes : List (DurableNode D)) (stores : List (DurableStore D)) : Type 0 where
  pub nodes_are : map (λ (n : DurableNode D). n.name.number) nodes ≡ plan.topology.nodes
  pub known : AllByRecursion (IsStoreNumber plan) stores
  pub each : (a : Actor) → Contains (actors plan.topology) a
      → Contains (map (λ (n : DurableNode D). actor_of n.name.number 0) nodes ++ map store.actor_in stores) a

-- a run that stood before, with room for one more, in which nobody is down, and for which these actors stand
pub record IsEarlier {D : Type 0} (plan : Content) (nodes : List (DurableNode D)) (stores : List (DurableStore D)) (earlier : List Item) : Type 0 where
  pub sound : IsSound (cluster_of plan) (opened earlier)
  pub room : HasRoom (opened earlier)
  pub up : (a : Actor) → is_down a earlier ≡ false
  pub nodes_did : AllByRecursion (HasDone plan earlier) nodes
  pub stores_did : AllByRecursion (HasTaken plan earlier) stores

-- whatever run these nodes did their parts in, this is what it drew for the transaction with this number, if it has begun it
abbrev pub TellsOf : {D : Type 0} → Content → List (DurableNode D) → ℕ → Option TxnId → Type 0
TellsOf plan nodes txn id =
    (earlier : List Item) → IsSound (cluster_of plan) (opened earlier) → AllByRecursion (HasDone plan earlier) nodes
    → known_as (Some id) ≡ begun_as (is_begun earlier txn) (id_of_txn earlier txn)

-- all disks are strict, and nothing is armed there
pub record AreUnarmed {D : Type 0} (port : Ghosts D) (nodes : List (DurableNode D)) (stores : List (DurableStore D)) : Type 0 where
  pub nodes_are : AllByRecursion (λ (n : DurableNode D). IsUnarmed port n.journal.disk) nodes
  pub stores_are : AllByRecursion (λ (t : DurableStore D). IsUnarmed port t.journal.disk) stores

-- ---- the slots, as they are filled with actors

-- The actors of these nodes and stores stand in the slots, none stands at a number that isn't the plan's, and those that are there
-- stand for an earlier run in which nobody is down if they did their parts in it. If they stand for pasts of low heights, they are safe.
pub record AreFilled {D : Type 0} (port : Ghosts D) (plan : Content) (nodes : List (DurableNode D)) (stores : List (DurableStore D)) (slots : List (Slot D)) : Type 0 where
  pub only : (a : Actor) → IsTaken (slot_at slots a) → Contains (actors plan.topology) a
  pub nodes_there : AllByRecursion (λ (n : DurableNode D). IsTaken (slot_at slots (actor_of n.name.number 0))) nodes
  pub stores_there : AllByRecursion (λ (t : DurableStore D). IsTaken (slot_at slots (store.actor_in t))) stores
  pub stand : (earlier : List Item) → ((a : Actor) → is_down a earlier ≡ false) → AllByRecursion (HasDone plan earlier) nodes → AllByRecursion (HasTaken plan earlier) stores
      → (a : Actor) → IsTaken (slot_at slots a) → SlotStands port plan (opened earlier) a (slot_at slots a)
  pub safe : AllByRecursion (HasLowPast plan) nodes → AllByRecursion (TookLow plan) stores
      → (a : Actor) → IsTaken (slot_at slots a) → IsSafe port plan most_opened a (slot_at slots a)

-- and if nothing is armed on their disks, and all are strict, that is so in their slots
abbrev pub AreFilledStrictly : {D : Type 0} → Ghosts D → Content → List (DurableNode D) → List (DurableStore D) → List (Slot D) → Type 0
AreFilledStrictly port plan nodes stores slots =
    AreUnarmed port nodes stores → (earlier : List Item) (a : Actor) → IsTaken (slot_at slots a)
    → IsStrictSlot port plan (opened earlier) fresh_disks a (slot_at slots a)
