-- When the actor at a number stands for a situation.
--     SlotStages      for its past, with these steps staged after it, and its disk has counted its downs
--     SlotStands      the same with nothing staged
--     IsStrictSlot      its disk is strict, and what is armed there is known
use Rattle.std.specs.Prelude.{◌≡◌, ℕ, ◌≤◌, Bool, true, false, List, [], ◌∷◌}
use Rattle.acc_stamp.specs.declared.actors.Actor.{Actor}
use Rattle.acc_stamp.specs.Actor.{node_of}
use Rattle.acc_ports.specs.declared.disk.Disk.{Ghosts}
use Rattle.acc_message.specs.declared.entry.Event.{Event}
use Rattle.acc_message.specs.declared.message.Message.{Message}
use Rattle.acc_message.specs.Run.{clock_start, is_node, is_down}
use Rattle.acc_payloads.specs.Items.{downs_in}
use Rattle.acc_durable_node.specs.declared.name.NodeName.{NodeName}
use Rattle.acc_durable_node.specs.declared.actor.NodeActor.{NodeActor}
use Rattle.acc_durable_store.specs.declared.name.StoreName.{StoreName}
use Rattle.acc_durable_store.specs.declared.actor.StoreActor.{StoreActor}
use Rattle.acc_durable_node.specs.Actor as node
use Rattle.acc_durable_store.specs.Actor as store
use Rattle.acc_durable_store.specs.Weighing.{IsPreparedBy}
use Rattle.acc_store.specs.declared.steps.Prepared.{Prepared}
use Rattle.acc_schedule.specs.Content.{Content}
use Rattle.acc_schedule_runs.specs.Situations.{Situation, whole}
use Rattle.acc_schedule_runs.specs.Schedules.{cluster_of}
use Rattle.acc_schedule_runs.specs.Disks.{Disks}
use Rattle.acc_actors.specs.Pasts.{stops_in, store_stops, node_past, store_past}
use Rattle.acc_actors.specs.declared.slot.Slot.{Slot}
use Rattle.acc_actors.specs.declared.slot.Slot.TheVariants.{Empty, Node, Store}

-- what the plan opens a node as
abbrev pub node_name : Content → ℕ → NodeName
node_name plan number = record { number = number; start = clock_start plan.starts number; version = plan.version }

pub record NodeStands {D : Type 0} (port : Ghosts D) (plan : Content) (s : Situation) (a : Actor) (n : NodeActor D) : Type 0 where
  pub kind : is_node a ≡ true
  pub stands : node.StandsFor port plan.topology (node_name plan (node_of a)) (node_past (cluster_of plan) s a) n
  pub down : node.is_down n ≡ is_down a (whole s)
  pub counted : downs_in a s.own ≤ (port.state (node.disk_of n)).faults

-- what the plan opens a store as
abbrev pub store_name : Content → Actor → StoreName
store_name plan a = record { actor = a; version = plan.version }

-- it has taken the messages of the events after its past, in memory alone
pub record StoreStages {D : Type 0} (port : Ghosts D) (plan : Content) (s : Situation) (a : Actor) (staged : List Event) (t : StoreActor D) : Type 0 where
  pub kind : is_node a ≡ false
  pub stands : store.IsStaging port plan.topology (store_name plan a) (store_past (cluster_of plan) s a) (store_stops (stops_in (cluster_of plan) s a staged false)) t
  pub down : store.is_down t ≡ is_down a (whole s)
  pub counted : downs_in a s.own ≤ (port.state (store.disk_of t)).faults

abbrev pub StoreStands : {D : Type 0} → Ghosts D → Content → Situation → Actor → StoreActor D → Type 0
StoreStands port plan s a t = StoreStages port plan s a [] t

-- a node stages nothing
abbrev pub NodeStages : {D : Type 0} → Ghosts D → Content → Situation → Actor → List Event → NodeActor D → Type 0
NodeStages port plan s a [] n = NodeStands port plan s a n
NodeStages port plan s a (event ∷ events) n = ⊥

abbrev pub SlotStages : {D : Type 0} → Ghosts D → Content → Situation → Actor → List Event → Slot D → Type 0
SlotStages port plan s a staged Empty = ⊥
SlotStages port plan s a staged (Node n) = NodeStages port plan s a staged n
SlotStages port plan s a staged (Store t) = StoreStages port plan s a staged t

abbrev pub SlotStands : {D : Type 0} → Ghosts D → Content → Situation → Actor → Slot D → Type 0
SlotStands port plan s a slot = SlotStages port plan s a [] slot

-- an actor stands in the slot, and is down
abbrev pub is_down_in : {D : Type 0} → Slot D → Bool
is_down_in Empty = false
is_down_in (Node n) = node.is_down n
is_down_in (Store t) = store.is_down t

-- the disk of the actor has counted so many faults
abbrev pub faults_in : {D : Type 0} → Ghosts D → Slot D → ℕ
faults_in port Empty = 0
faults_in port (Node n) = (port.state (node.disk_of n)).faults
faults_in port (Store t) = (port.state (store.disk_of t)).faults

-- ---- over strict disks

abbrev pub IsStrictSlot : {D : Type 0} → Ghosts D → Content → Situation → Disks → Actor → Slot D → Type 0
IsStrictSlot port plan s disks a Empty = ⊥
IsStrictSlot port plan s disks a (Node n) =
    node.IsStrictAt port plan.topology (node_name plan (node_of a)) (disks.armed a) (disks.passed a) (node_past (cluster_of plan) s a) n
IsStrictSlot port plan s disks a (Store t) =
    store.IsStrictAt port plan.topology (store_name plan a) (disks.armed a) (disks.passed a) (store_past (cluster_of plan) s a) t

-- ---- by their numbers

-- an actor stands there
abbrev pub IsTaken : {D : Type 0} → Slot D → Type 0
IsTaken Empty = ⊥
IsTaken (Node n) = Unit {0}
IsTaken (Store t) = Unit {0}

-- the step of a message is planned for the store in the slot, with what is staged
abbrev pub IsPreparedIn : {D : Type 0} → Content → Slot D → Message → Prepared → Type 0
IsPreparedIn plan Empty m prepared = ⊥
IsPreparedIn plan (Node node) m prepared = ⊥
IsPreparedIn plan (Store store) m prepared = IsPreparedBy plan.topology store m prepared

-- ---- where memory was refused

-- The actor stands in the slot for what it stood for, over the disk that it had.
pub record StaysIn {D : Type 0} (port : Ghosts D) (plan : Content) (a : Actor) (old new : Slot D) : Type 0 where
  pub stands : (s : Situation) → SlotStands port plan s a old → SlotStands port plan s a new
  pub strictly : (s : Situation) (disks : Disks) → IsStrictSlot port plan s disks a old → IsStrictSlot port plan s disks a new
