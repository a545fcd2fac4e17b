-- What an item changes in what waits.
use Rattle.std.specs.Prelude.{◌≡◌, ◌⊎◌, ℕ, ◌+◌, ◌<◌, ◌≤◌, Bool, not, List, [], ◌∷◌, length, Some}
use Rattle.std.specs.List.{slice_get}
use Rattle.acc_message_index.specs.declared.posting.Posting.{Posting}
use Rattle.acc_message_index.specs.Mail.{taken}
use Rattle.acc_message_index.specs.Standing.{Standing, is_down_at}
use Rattle.acc_message.specs.declared.message.Message.{Message}
use Rattle.acc_message.specs.declared.entry.Event.{Event}
use Rattle.acc_message.specs.declared.entry.Event.TheVariants.{Message as TakesMessage}
use Rattle.acc_message.specs.declared.item.Item.{Item}
use Rattle.acc_message.specs.declared.item.Item.TheVariants.{Step, Skipped, Down}
use Rattle.acc_message.specs.Fields.{to_of}
use Rattle.acc_message.specs.Items.{sent_in}
use Rattle.acc_schedule_runs.specs.Situations.{is_lost}

-- room for more actors and messages alone
pub record IsAsBefore (before after : Standing) : Type 0 where
  pub sent : after.sent ≡ before.sent
  pub downs : (actor : ℕ) → is_down_at after.downs actor ≡ is_down_at before.downs actor
  pub more : length before.downs ≤ length after.downs

-- the number is that of the actor or of one to which a message goes
abbrev pub IsNamed : ℕ → List Message → ℕ → Type 0
IsNamed actor messages number = (number ≡ actor) ⊎ ((index : ℕ) × (m : Message) × (slice_get messages index ≡ Some m) × (number ≡ (to_of m).0))

-- the actors to which the messages go are below the count
abbrev pub AreCovered : ℕ → List Message → Type 0
AreCovered count messages = (index : ℕ) (m : Message) → slice_get messages index ≡ Some m → (to_of m).0 < count

abbrev pub IsCovered : ℕ → Item → Type 0
IsCovered count (Step e) = (e.actor.0 < count) × AreCovered count e.emitted.out
IsCovered count (Skipped step cause) = Unit {0}
IsCovered count (Down actor) = actor.0 < count

-- the messages without what an event takes
abbrev pub without_event : Event → List Posting → List Posting
without_event (TakesMessage number) sent = taken number sent
without_event _ sent = sent

abbrev pub without_item : Item → List Posting → List Posting
without_item (Step e) sent = without_event e.event sent
without_item (Skipped step cause) sent = sent
without_item (Down actor) sent = sent

abbrev pub posting_of : ℕ → ℕ → Bool → Message → Posting
posting_of place index lost m = record { place = place; index = index; to = (to_of m).0; is_open = not lost }

-- the messages of the item at a place, from the one with this index on
abbrev pub postings_of : ℕ → ℕ → Bool → List Message → List Posting
postings_of place index lost [] = []
postings_of place index lost (m ∷ messages) = posting_of place index lost m ∷ postings_of place (index + 1) lost messages

abbrev pub postings_in : ℕ → Item → List Posting
postings_in place item = postings_of place 0 (is_lost item) (sent_in item)
