-- The journal of a store.
use Rattle.std.specs.Prelude.{◌≡◌, ℕ, ◌^◌, ◌<◌, Bool, true, false, not, ◌&&◌, ◌||◌, nat_lt, List, [], ◌∷◌, ◌++◌, reverse, is_some}
use Rattle.std.specs.List.{list_any}
use Rattle.acc_stamp.specs.declared.actors.Actor.{Actor}
use Rattle.acc_stamp.specs.Actor.{actor_eq}
use Rattle.acc_topology.specs.Layout.{Layout}
use Rattle.acc_message.specs.declared.message.Message.{Message}
use Rattle.acc_message.specs.Fields.{to_of, top_of}
use Rattle.acc_message.specs.Taken.{body_in}
use Rattle.acc_message.specs.VoteRule.{greatest_h}
use Rattle.acc_message.specs.StoreRules.{replay}
use Rattle.acc_message_code.specs.Fitting.{FitsMessage}
use Rattle.acc_message_code.specs.MessageSpelling.{message_bytes}
use Rattle.acc_payloads.specs.declared.store.StorePayload.{StorePayload}
use Rattle.acc_payloads.specs.declared.store.StorePayload.TheVariants.{Mark, Takes}
use Rattle.acc_payloads.specs.Spelling.{mark_bytes}
use Rattle.acc_payloads.specs.Journals.{IsJournalOf, may_mark, appended, marked_after}
use Rattle.acc_payloads.specs.Texts.{has_text}

abbrev pub store_bytes : StorePayload → List ℕ
store_bytes Mark = mark_bytes
store_bytes (Takes m) = message_bytes m

abbrev pub FitsStore : StorePayload → Type 0
FitsStore Mark = Unit {0}
FitsStore (Takes m) = FitsMessage m

abbrev pub is_mark : StorePayload → Bool
is_mark Mark = true
is_mark (Takes m) = false

abbrev pub has_mark : List StorePayload → Bool
has_mark items = list_any is_mark items

-- the messages among them, marks aside
abbrev pub messages_in : List StorePayload → List Message
messages_in [] = []
messages_in (Mark ∷ items) = messages_in items
messages_in (Takes m ∷ items) = m ∷ messages_in items

-- the same, the newest first
abbrev pub taken_in : List StorePayload → List Message
taken_in items = reverse (messages_in items)

-- ---- the journal

-- a message that the store can take
abbrev pub is_for : Actor → Message → Bool
is_for own m = actor_eq (to_of m) own && is_some (body_in m)

-- It names no h of 2^62 or more, and has a text value only after a mark.
abbrev pub may_take : Actor → Bool → Message → Bool
may_take own marked m = is_for own m && nat_lt (top_of m) (2 ^ 62) && (not (has_text m) || marked)

abbrev pub store_may : ℕ → Actor → Bool → StorePayload → Bool
store_may version own marked Mark = may_mark version marked
store_may version own marked (Takes m) = may_take own marked m

-- a message follows no vote whose h is 2^62 or more
abbrev pub MayStep : Layout → Actor → List Message → StorePayload → Type 0
MayStep layout own taken Mark = Unit {0}
MayStep layout own taken (Takes m) = greatest_h own (replay layout own taken) < 2 ^ 62

abbrev pub StoreMay : Layout → ℕ → Actor → List StorePayload → StorePayload → Type 0
StoreMay layout version own before p = FitsStore p × (store_may version own (has_mark before) p ≡ true) × MayStep layout own (taken_in before) p

abbrev pub IsStoreJournal : Layout → ℕ → Actor → List (List ℕ) → List StorePayload → Type 0
IsStoreJournal layout version own payloads items = IsJournalOf store_bytes (StoreMay layout version own) payloads items

-- ---- growth

-- a message that the store may take next; version 1 takes none that has a text value
pub record IsNextFor (layout : Layout) (version : ℕ) (own : Actor) (taken : List Message) (m : Message) : Type 0 where
  pub fits : FitsMessage m
  pub goes_to : is_for own m ≡ true
  pub top : top_of m < 2 ^ 62
  pub greatest : greatest_h own (replay layout own taken) < 2 ^ 62
  pub texts : has_text m ≡ true → version ≡ 2

-- after a store's journal its payloads of one message more are a journal again
pub record GrowsBy (layout : Layout) (version : ℕ) (own : Actor) (payloads : List (List ℕ)) (items : List StorePayload) (m : Message) : Type 0 where
  pub later : List StorePayload
  pub journal : IsStoreJournal layout version own (payloads ++ appended version (has_mark items) (message_bytes m)) later
  pub taken : taken_in later ≡ m ∷ taken_in items
  pub marked : has_mark later ≡ marked_after version (has_mark items)
