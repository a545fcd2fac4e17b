-- An entry that an actor may make next.
use Rattle.std.specs.Prelude.{◌≡◌, ℕ, Bool, List, Some}
use Rattle.acc_stamp.specs.declared.actors.Actor.{Actor}
use Rattle.acc_message.specs.declared.entry.Emitted.{Emitted}
use Rattle.acc_message.specs.declared.entry.Event.{Event}
use Rattle.acc_message.specs.declared.item.Item.{Item}
use Rattle.acc_message.specs.declared.item.Item.TheVariants.{Step}
use Rattle.acc_message.specs.NodeRules.{Act}
use Rattle.acc_message.specs.Run.{Cluster, act_of, MayStand}
use Rattle.acc_run_laws.specs.Asks.{emits_if}
use Rattle.acc_payloads.specs.Items.{payload_by}

-- what the actor emits by the rules, and what its journal gets
abbrev pub emitted_for : Cluster → List Item → Actor → Event → Emitted
emitted_for cluster items a event = emits_if cluster items a (act_of cluster items event)

abbrev pub payload_for : Cluster → List Item → Actor → Event → List (List ℕ)
payload_for cluster items a event = payload_by items a event (emitted_for cluster items a event).notes

-- its entry
abbrev pub entering : Cluster → List Item → Actor → Event → Bool → Item
entering cluster items a event lost =
    Step (record { actor = a; event = event; emitted = emitted_for cluster items a event; lost = lost })

-- after the items the event takes this, and may come to the actor
pub record MayTake (cluster : Cluster) (items : List Item) (a : Actor) (event : Event) (act : Act) : Type 0 where
  pub act_is : act_of cluster items event ≡ Some act
  pub place : MayStand cluster items a act event
