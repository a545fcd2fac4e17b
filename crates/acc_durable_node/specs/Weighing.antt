-- What a node would send, and when it may weigh that for a message: it stands for a past by whose rules that is short messages, whose bytes
-- a number of 64 bits counts.
use Rattle.std.specs.Prelude.{◌≡◌, ℕ, ◌<◌, ◌^◌, All}
use Rattle.acc_topology.specs.Layout.{Layout}
use Rattle.acc_ports.specs.declared.disk.Disk.{Ghosts}
use Rattle.acc_message.specs.declared.message.Message.{Message}
use Rattle.acc_message.specs.NodeRules.{Act, Takes}
use Rattle.acc_message_code.specs.Short.{IsShortMessage}
use Rattle.acc_message_code.specs.Weight.{weight_of_all}
use Rattle.acc_durable_node.specs.declared.name.NodeName.{NodeName}
use Rattle.acc_durable_node.specs.declared.actor.NodeActor.{NodeActor}
use Rattle.acc_payloads.specs.Stops.{Past}
use Rattle.acc_durable_node.specs.Actor as node

-- so many bytes of encoded messages would go out for an act
abbrev pub Weighs : {D : Type 0} → Ghosts D → Layout → NodeActor D → Act → ℕ → Type 0
Weighs port layout actor act weight =
    node.OfEachPast port layout actor (λ name past. weight ≡ weight_of_all (node.emits_next layout name past act).out)

pub record NodeMayWeigh {D : Type 0} (port : Ghosts D) (layout : Layout) (actor : NodeActor D) (m : Message) : Type 0 where
  pub name : NodeName
  pub past : Past Act
  pub stands : node.StandsFor port layout name past actor
  pub short : All IsShortMessage (node.emits_next layout name past (Takes m)).out
  pub fits : weight_of_all (node.emits_next layout name past (Takes m)).out < 2 ^ 64
