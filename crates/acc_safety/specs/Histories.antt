-- The histories of actors in a run: that each step is what the rules say, and where in the run it stands.
--     EachAnswers, EachEmits      by recursion: a store sends, and a node emits, in each step what its rules give from the past
--     Sending, Noting      an entry of the items that sent a message, or made a note
--     StoreStep, NodeStep      a step of a store or of a node with its entry
use Rattle.std.specs.Prelude.{◌≡◌, ℕ, true, false, List, [], ◌∷◌, Some}
use Rattle.acc_stamp.specs.declared.actors.Actor.{Actor}
use Rattle.acc_topology.specs.Layout.{Layout}
use Rattle.acc_message.specs.declared.message.Message.{Message}
use Rattle.acc_message.specs.declared.note.Note.{Note}
use Rattle.acc_message.specs.declared.entry.Entry.{Entry}
use Rattle.acc_message.specs.declared.item.Item.{Item}
use Rattle.acc_message.specs.declared.item.Item.TheVariants.{Step}
use Rattle.acc_message.specs.Fields.{from_of, to_of}
use Rattle.acc_message.specs.Taken.{Taken}
use Rattle.acc_message.specs.StoreRules.{store_answer}
use Rattle.acc_message.specs.NodeRules.{Deed, node_emits}
use Rattle.acc_message.specs.Run.{Cluster, act_of, deeds_of, taken_of, is_node, MayStand}
use Rattle.acc_safety.specs.Places.{IsIn, StandsAt}

-- ---- steps by the rules

abbrev pub EachAnswers : Layout → Actor → List Taken → Type 0
EachAnswers layout own [] = Unit {0}
EachAnswers layout own (step ∷ past) = (step.sent ≡ store_answer layout own past step.message) × EachAnswers layout own past

abbrev pub EachEmits : Layout → ℕ → ℕ → List Deed → Type 0
EachEmits layout node start [] = Unit {0}
EachEmits layout node start (deed ∷ past) = (deed.emitted ≡ node_emits layout node start past deed.act) × EachEmits layout node start past

-- ---- entries of a run

-- an entry of the items sent the message
pub record Sending (items : List Item) (m : Message) : Type 0 where
  pub entry : Entry
  pub earlier : List Item
  pub at : StandsAt (Step entry) earlier items
  pub sent : IsIn m entry.emitted.out

-- an entry of the items made the note
pub record Noting (items : List Item) (note : Note) : Type 0 where
  pub entry : Entry
  pub earlier : List Item
  pub at : StandsAt (Step entry) earlier items
  pub noted : IsIn note entry.emitted.notes

-- ---- steps of a history, with their entries

-- a store's step: its entry, after which the past stands, and the earlier entry that sent the message
pub record StoreStep (cluster : Cluster) (a : Actor) (items : List Item) (step : Taken) (past : List Taken) : Type 0 where
  pub entry : Entry
  pub earlier : List Item
  pub at : StandsAt (Step entry) earlier items
  pub actor_is : entry.actor ≡ a
  pub past_is : taken_of cluster a earlier ≡ past
  pub sending : Sending earlier step.message
  pub addressed : to_of step.message ≡ a
  pub out_is : entry.emitted.out ≡ step.sent

-- a node's step: its entry, after which the past stands
pub record NodeStep (cluster : Cluster) (a : Actor) (items : List Item) (deed : Deed) (past : List Deed) : Type 0 where
  pub entry : Entry
  pub earlier : List Item
  pub at : StandsAt (Step entry) earlier items
  pub actor_is : entry.actor ≡ a
  pub past_is : deeds_of cluster a earlier ≡ past
  pub act_is : act_of cluster earlier entry.event ≡ Some deed.act
  pub place : MayStand cluster earlier a deed.act entry.event
  pub emitted_is : entry.emitted ≡ deed.emitted

-- a message that a node took was sent by an earlier entry
pub record TakenByNode (items : List Item) (a : Actor) (m : Message) : Type 0 where
  pub sending : Sending items m
  pub addressed : to_of m ≡ a

-- ---- who sent a message

-- a store sent it, at this place of its history
pub record FromStore (cluster : Cluster) (items : List Item) (a : Actor) (m : Message) : Type 0 where
  pub is_store : is_node a ≡ false
  pub step : Taken
  pub past : List Taken
  pub at : StandsAt step past (taken_of cluster a items)
  pub sent : IsIn m step.sent

-- a node sent it, at this place of its history
pub record FromNode (cluster : Cluster) (items : List Item) (a : Actor) (m : Message) : Type 0 where
  pub is_node : is_node a ≡ true
  pub deed : Deed
  pub past : List Deed
  pub at : StandsAt deed past (deeds_of cluster a items)
  pub sent : IsIn m deed.emitted.out

-- its sender did
pub data Sender (cluster : Cluster) (items : List Item) (m : Message) : Type 0 where
  IsStore : FromStore cluster items (from_of m) m → Sender cluster items m
  IsNode : FromNode cluster items (from_of m) m → Sender cluster items m

-- a node made the note, at this place of its history
pub record NotedBy (cluster : Cluster) (items : List Item) (note : Note) : Type 0 where
  pub actor : Actor
  pub is_node : is_node actor ≡ true
  pub deed : Deed
  pub past : List Deed
  pub at : StandsAt deed past (deeds_of cluster actor items)
  pub noted : IsIn note deed.emitted.notes
