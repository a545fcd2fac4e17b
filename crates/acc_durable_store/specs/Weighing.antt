-- When a store may weigh what it would send for a message: it stands for a past by whose rules that is short messages, whose bytes a number
-- of 64 bits counts.
use Rattle.std.specs.Prelude.{◌<◌, ◌^◌, List, All}
use Rattle.acc_topology.specs.Layout.{Layout}
use Rattle.acc_ports.specs.declared.disk.Disk.{Ghosts}
use Rattle.acc_message.specs.declared.message.Message.{Message}
use Rattle.acc_message_code.specs.Short.{IsShortMessage}
use Rattle.acc_message_code.specs.Weight.{weight_of_all}
use Rattle.acc_durable_store.specs.declared.name.StoreName.{StoreName}
use Rattle.acc_durable_store.specs.declared.actor.StoreActor.{StoreActor}
use Rattle.acc_durable_store.specs.declared.actor.StoreState.{StoreState}
use Rattle.acc_durable_store.specs.declared.actor.StoreState.TheVariants.{Open, Shut}
use Rattle.acc_store.specs.declared.steps.Prepared.{Prepared}
use Rattle.acc_store.specs.Prepared.{IsPrepared}
use Rattle.acc_payloads.specs.Stops.{Stop, Past, kept_with}
use Rattle.acc_durable_store.specs.Actor as store

pub record StoreMayWeigh {D : Type 0} (port : Ghosts D) (layout : Layout) (actor : StoreActor D) (m : Message) : Type 0 where
  pub may : store.MayStage port layout actor m
  pub name : StoreName
  pub past : Past Message
  pub staged : List (Stop Message)
  pub stands : store.IsStaging port layout name past staged actor
  pub short : All IsShortMessage (store.emits_next layout name.actor (kept_with staged past) m).out
  pub fits : weight_of_all (store.emits_next layout name.actor (kept_with staged past) m).out < 2 ^ 64

-- The step of a message is planned for the store as it stands, with what is staged.
abbrev pub IsPreparedIn : {D : Type 0} → Layout → StoreState D → Message → Prepared → Type 0
IsPreparedIn layout (Open durable) m prepared = IsPrepared layout durable.store m prepared
IsPreparedIn layout (Shut disk) m prepared = ⊥

abbrev pub IsPreparedBy : {D : Type 0} → Layout → StoreActor D → Message → Prepared → Type 0
IsPreparedBy layout actor m prepared = IsPreparedIn layout actor.state m prepared
