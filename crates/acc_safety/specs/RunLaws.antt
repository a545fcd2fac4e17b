-- What laws of every run speak of: the stamps that were drawn, and who sent a message.
use Rattle.std.specs.Prelude.{◌≡◌, ℕ, false, ◌⊎◌, IsTrue, List, [], ◌∷◌, ◌++◌, map, Some, Contains}
use Rattle.std.specs.List.{flat_map}
use Rattle.acc_stamp.specs.declared.stamps.Stamp.{Stamp}
use Rattle.acc_stamp.specs.declared.actors.Actor.{Actor}
use Rattle.acc_stamp.specs.Stamp.{stamp_eq}
use Rattle.acc_stamp.specs.Rising.{is_among}
use Rattle.acc_message.specs.declared.message.Message.{Message}
use Rattle.acc_message.specs.declared.note.Note.{Note}
use Rattle.acc_message.specs.declared.note.Note.TheVariants.{Begin as BeginNote, Recover as RecoverNote}
use Rattle.acc_message.specs.declared.item.Item.{Item}
use Rattle.acc_message.specs.Fields.{to_of}
use Rattle.acc_message.specs.Items.{sent_in, noted_in, message_at, same_actor}
use Rattle.acc_message.specs.NodeRules.{Act, Deed}

-- ---- drawn stamps

-- the stamp of an id that was begun, or of a ballot that was drawn for a recovery
abbrev pub drawn_in : Note → List Stamp
drawn_in (BeginNote id) = id.0 ∷ []
drawn_in (RecoverNote id ballot) = ballot.0 ∷ []
drawn_in _ = []

-- all of them, those of the newest items first
abbrev pub drawn_of : List Item → List Stamp
drawn_of [] = []
drawn_of (item ∷ earlier) = flat_map drawn_in (noted_in item) ++ drawn_of earlier

-- none stands twice
abbrev pub AreDistinct : List Stamp → Type 0
AreDistinct [] = Unit {0}
AreDistinct (s ∷ stamps) = (is_among stamp_eq s stamps ≡ false) × AreDistinct stamps

-- ---- senders

-- some of the items sent the message
abbrev pub IsSentIn : Message → List Item → Type 0
IsSentIn m [] = ⊥
IsSentIn m (item ∷ earlier) = Contains (sent_in item) m ⊎ IsSentIn m earlier

-- the message with this number was sent by one of these items to the actor
pub record WasSent (earlier : List Item) (number : ℕ) (actor : Actor) : Type 0 where
  pub message : Message
  pub numbered : message_at earlier number ≡ Some message
  pub sent : IsSentIn message earlier
  pub addressed : IsTrue (same_actor (to_of message) actor)

-- ---- what an actor took

-- what a node took
abbrev pub acts_done : List Deed → List Act
acts_done past = map (λ (deed : Deed). deed.act) past
