-- What the calls of nodes and stores ask for, told of an actor's part in a run.
--     NodeMeets      of a node that stands for what it did: its start, its clock, and what it would send
--     StoreMeets      of a store that stands for the messages that it took: its greatest height, and what it would send
--     IsDeliverable      of a message that can be taken: by whom, its top, and that one for a store brings a body
use Rattle.std.specs.Prelude.{◌≡◌, ◌<◌, ◌≤◌, ◌^◌, false, IsTrue, List, is_some}
use Rattle.acc_stamp.specs.declared.actors.Actor.{Actor}
use Rattle.acc_stamp.specs.Actor.{node_of}
use Rattle.acc_message.specs.declared.message.Message.{Message}
use Rattle.acc_message.specs.declared.item.Item.{Item}
use Rattle.acc_message.specs.Fields.{to_of, top_of}
use Rattle.acc_message.specs.Taken.{body_in}
use Rattle.acc_message.specs.VoteRule.{greatest_h}
use Rattle.acc_message.specs.NodeRules.{Act, Takes, Deed, clock_of, node_emits, node_replay}
use Rattle.acc_message.specs.StoreRules.{store_answer, replay}
use Rattle.acc_message.specs.Run.{Cluster, clock_start, deeds_of, taken_of, is_node}
use Rattle.acc_actor_laws.specs.TakenAlone.{messages_taken}
use Rattle.acc_safety.specs.RunLaws.{acts_done}
use Rattle.acc_message_code.specs.Short.{IsShortMessage}
use Rattle.acc_run_laws.specs.Next.{MayDo}
use Rattle.acc_run_laws.specs.Sends.{HasFewBodies, AreSendable}

-- what the actor did, as a replay of what it took
abbrev pub replayed_deeds : Cluster → Actor → List Item → List Deed
replayed_deeds cluster a items =
    node_replay cluster.layout (node_of a) (clock_start cluster.starts (node_of a)) (acts_done (deeds_of cluster a items))

pub record NodeMeets (cluster : Cluster) (items : List Item) (a : Actor) : Type 0 where
  pub start : clock_start cluster.starts (node_of a) ≤ 10 ^ 12
  pub drawn : (clock_of (node_of a) (clock_start cluster.starts (node_of a)) (replayed_deeds cluster a items)).drawn < 2 ^ 62
  pub seen : (clock_of (node_of a) (clock_start cluster.starts (node_of a)) (replayed_deeds cluster a items)).seen < 2 ^ 62
  pub sends :
      HasFewBodies cluster → (act : Act) → MayDo cluster items a act
      → AreSendable
      (node_emits cluster.layout (node_of a) (clock_start cluster.starts (node_of a)) (replayed_deeds cluster a items) act).out

-- the messages that the actor took, as a store replays them
abbrev pub replayed_steps : Cluster → Actor → List Item → List Message
replayed_steps cluster a items = messages_taken (taken_of cluster a items)

pub record StoreMeets (cluster : Cluster) (items : List Item) (a : Actor) : Type 0 where
  pub greatest : greatest_h a (replay cluster.layout a (replayed_steps cluster a items)) < 2 ^ 62
  pub sends :
      HasFewBodies cluster → (m : Message) → MayDo cluster items a (Takes m)
      → AreSendable (store_answer cluster.layout a (replay cluster.layout a (replayed_steps cluster a items)) m)

-- a message that is there to be taken: who it goes to may take it, and where this is a store it brings a body, which is all that
-- a store asks of it
pub record IsDeliverable (cluster : Cluster) (items : List Item) (m : Message) : Type 0 where
  pub may : MayDo cluster items (to_of m) (Takes m)
  pub top : top_of m < 2 ^ 62
  pub short : HasFewBodies cluster → IsShortMessage m
  pub brings : is_node (to_of m) ≡ false → IsTrue (is_some (body_in m))
