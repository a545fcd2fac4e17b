-- When an actor in its slot may be asked, whatever run it comes from: it stands for some past of its own, whose heights are low.
--     IsSafe port plan most a slot      no clock and no store there passes this height
use Rattle.std.specs.Prelude.{ℕ, ◌≤◌, ◌<◌, ◌^◌, Bool, List}
use Rattle.acc_stamp.specs.declared.actors.Actor.{Actor}
use Rattle.acc_ports.specs.declared.disk.Disk.{Ghosts}
use Rattle.acc_message.specs.declared.message.Message.{Message}
use Rattle.acc_message.specs.NodeRules.{Act, clock_of}
use Rattle.acc_message.specs.StoreRules.{replay}
use Rattle.acc_message.specs.VoteRule.{greatest_h}
use Rattle.acc_payloads.specs.Stops.{Past, kept_if}
use Rattle.acc_run_laws.specs.Heights.{IsLowClock}
use Rattle.acc_schedule.specs.Content.{Content}
use Rattle.acc_durable_node.specs.declared.name.NodeName.{NodeName}
use Rattle.acc_durable_node.specs.Names.{deeds_by}
use Rattle.acc_durable_node.specs.declared.node.DurableNode.{DurableNode}
use Rattle.acc_durable_node.specs.declared.actor.NodeActor.{NodeActor}
use Rattle.acc_durable_node.specs.Node as durable_node
use Rattle.acc_durable_node.specs.Actor as node
use Rattle.acc_durable_store.specs.declared.store.DurableStore.{DurableStore}
use Rattle.acc_durable_store.specs.declared.actor.StoreActor.{StoreActor}
use Rattle.acc_durable_store.specs.Store as durable_store
use Rattle.acc_durable_store.specs.Actor as store
use Rattle.acc_actors.specs.Slots.{store_name}
use Rattle.acc_actors.specs.declared.slot.Slot.{Slot}
use Rattle.acc_actors.specs.declared.slot.Slot.TheVariants.{Empty, Node, Store}

-- the greatest height with which an actor may be opened
abbrev pub most_opened : ℕ
most_opened = 2 ^ 61

-- ---- actors in their slots, with what a fault stopped or without it

pub record NodeIsSafe {D : Type 0} (port : Ghosts D) (plan : Content) (most : ℕ) (n : NodeActor D) : Type 0 where
  pub name : NodeName
  pub past : Past Act
  pub stands : node.StandsFor port plan.topology name past n
  pub low : (keeps : Bool) → IsLowClock most (clock_of name.number name.start (deeds_by plan.topology name (kept_if keeps past).acts))

pub record StoreIsSafe {D : Type 0} (port : Ghosts D) (plan : Content) (most : ℕ) (a : Actor) (t : StoreActor D) : Type 0 where
  pub past : Past Message
  pub stands : store.StandsFor port plan.topology (store_name plan a) past t
  pub low : (keeps : Bool) → greatest_h a (replay plan.topology a (kept_if keeps past).acts) ≤ most

abbrev pub IsSafe : {D : Type 0} → Ghosts D → Content → ℕ → Actor → Slot D → Type 0
IsSafe port plan most a Empty = Unit {0}
IsSafe port plan most a (Node n) = NodeIsSafe port plan most n
IsSafe port plan most a (Store t) = StoreIsSafe port plan most a t

-- ---- as they are opened

pub record HasLowPast {D : Type 0} (plan : Content) (n : DurableNode D) : Type 0 where
  pub acts : List Act
  pub stands : durable_node.StandsFor plan.topology n acts
  pub low : IsLowClock most_opened (clock_of n.name.number n.name.start (deeds_by plan.topology n.name acts))

pub record TookLow {D : Type 0} (plan : Content) (t : DurableStore D) : Type 0 where
  pub messages : List Message
  pub stands : durable_store.StandsFor plan.topology t messages
  pub low : greatest_h (durable_store.actor_in t) (replay plan.topology (durable_store.actor_in t) messages) ≤ most_opened

-- ---- as they are asked

-- it is safe, with heights below what clocks and stores may have
pub record MayBeTested {D : Type 0} (port : Ghosts D) (plan : Content) (a : Actor) (slot : Slot D) : Type 0 where
  pub most : ℕ
  pub low : most < 2 ^ 62
  pub safe : IsSafe port plan most a slot
