-- What an actor may do after some items, and what it sends then.
use Rattle.std.specs.Prelude.{◌≡◌, List, Some}
use Rattle.acc_stamp.specs.declared.actors.Actor.{Actor}
use Rattle.acc_message.specs.declared.message.Message.{Message}
use Rattle.acc_message.specs.declared.entry.Event.{Event}
use Rattle.acc_message.specs.declared.item.Item.{Item}
use Rattle.acc_message.specs.NodeRules.{Act}
use Rattle.acc_message.specs.Run.{Cluster, act_of, emits, MayStand}

-- an event with this act may stand next, as the actor's
pub record MayDo (cluster : Cluster) (items : List Item) (a : Actor) (act : Act) : Type 0 where
  pub event : Event
  pub act_is : act_of cluster items event ≡ Some act
  pub place : MayStand cluster items a act event

-- what the actor would send then
abbrev pub sends_next : Cluster → List Item → Actor → Act → List Message
sends_next cluster items a act = (emits cluster items a act).out
