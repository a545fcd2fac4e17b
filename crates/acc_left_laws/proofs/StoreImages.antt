-- What a store left reads as the messages that it took, each of which may stand there.
use Rattle.std.proofs.Common.{◌≡◌, ℕ, ◌^◌, Bool, true, false, not, ◌&&◌, ◌||◌, List, [], ◌∷◌, ◌++◌, map, refl, sym, ap, ◌∙◌, arith}
use Rattle.std.specs.Prelude.{nat_lt}
use Rattle.std.proofs.lemmas.Bool.{and_from, lt-ltb}
use Rattle.acc_stamp.specs.declared.actors.Actor.{Actor}
use Rattle.acc_message.specs.declared.message.Message.{Message}
use Rattle.acc_message.specs.declared.item.Item.{Item}
use Rattle.acc_message.specs.Fields.{top_of}
use Rattle.acc_message_code.specs.MessageSpelling.{message_bytes}
use Rattle.acc_payloads.specs.declared.store.StorePayload.{StorePayload}
use Rattle.acc_payloads.specs.declared.store.StorePayload.TheVariants.{Mark, Takes}
use Rattle.acc_payloads.specs.Items.{without_marks, AreMarked, MayBeMarked}
use Rattle.acc_payloads.specs.Journals.{may_mark, EachMay, IsJournalOf}
use Rattle.acc_payloads.specs.Spelling.{mark_bytes}
use Rattle.acc_payloads.specs.Store.{has_mark, is_for, may_take, messages_in, store_bytes, StoreMay}
use Rattle.acc_payloads.specs.Texts.{has_text}
use Rattle.acc_schedule.specs.Content.{Content}
use Rattle.acc_left.specs.declared.image.Image.{Image}
use Rattle.acc_left.specs.Rules.{IsMessageOf, StoreMayLeave}
use Rattle.acc_left_laws.proofs.Interleaved.{interleaved, Interleaved}
use Rattle.acc_left_laws.proofs.MarkFacts.{store_marks}
use Rattle.acc_left_laws.proofs.StoreTakes.{NextMessage}

messages_more : (items : List StorePayload) (m : Message) → messages_in (items ++ Takes m ∷ []) ≡ messages_in items ++ m ∷ []
messages_more [] m = refl
messages_more (Mark ∷ items) m = messages_more items m
messages_more (Takes n ∷ items) m = ap (λ (l : List Message). n ∷ l) (messages_more items m)

messages_marked : (items : List StorePayload) → messages_in (items ++ Mark ∷ []) ≡ messages_in items
messages_marked [] = refl
messages_marked (Mark ∷ items) = messages_marked items
messages_marked (Takes n ∷ items) = ap (λ (l : List Message). n ∷ l) (messages_marked items)

-- a text value stands after a mark
texts_allowed : (text marked : Bool) → (text ≡ true → marked ≡ true) → (not text || marked) ≡ true
texts_allowed true true h = refl
texts_allowed true false h = h refl
texts_allowed false marked h = refl

module _ (plan : Content) (run : List Item) (own : Actor) where
  mark_allowed : (before : List StorePayload) → MayBeMarked plan.version (map store_bytes before) mark_bytes → may_mark plan.version (has_mark before) ≡ true
  mark_allowed before marked = ap (may_mark plan.version) (sym (store_marks before)) ∙ marked.marks refl

  take_allowed : (before : List StorePayload) (m : Message) → NextMessage plan run own (messages_in before) m → MayBeMarked plan.version (map store_bytes before) (message_bytes m)
      → may_take own (has_mark before) m ≡ true
  take_allowed before m next marked =
      let top = next.top in
      and_from (is_for own m && nat_lt (top_of m) (2 ^ 62)) (not (has_text m) || has_mark before)
      (and_from (is_for own m) (nat_lt (top_of m) (2 ^ 62)) next.goes_to (lt-ltb (top_of m) (2 ^ 62) (omega (arith, top))))
      (texts_allowed (has_text m) (has_mark before) (λ text. sym (store_marks before) ∙ marked.texts m next.fits refl text))

  -- the payloads of these messages, with their marks, each of which may stand there
  pub record HasMessages (May : List StorePayload → StorePayload → Type 0) (payloads : List (List ℕ)) (messages : List Message) : Type 0 where
    pub items : List StorePayload
    pub journal : IsJournalOf store_bytes May payloads items
    pub messages_are : messages_in items ≡ messages

  module _ (May : List StorePayload → StorePayload → Type 0) (mark_may : (before : List StorePayload) → MayBeMarked plan.version (map store_bytes before) mark_bytes → May before Mark)
      (take_may : (before : List StorePayload) (m : Message) → NextMessage plan run own (messages_in before) m → MayBeMarked plan.version (map store_bytes before) (message_bytes m)
      → May before (Takes m)) where
    has_messages : (payloads : List (List ℕ)) (messages : List Message) → AreMarked plan.version payloads → without_marks payloads ≡ map message_bytes messages
        → EachMay (NextMessage plan run own) [] messages → HasMessages May payloads messages
    has_messages payloads messages marked are each =
        let k : Interleaved store_bytes messages_in May [] payloads messages =
        interleaved Mark Takes store_bytes messages_in plan.version refl messages_marked messages_more May (NextMessage plan run own) mark_may take_may payloads messages marked are each in
        record { items = k.items; journal = record { spelled = k.spelled; each = k.each }; messages_are = k.contents_are }

  module _ (payloads : List (List ℕ)) (messages : List Message) (marked : AreMarked plan.version payloads) (are : without_marks payloads ≡ map message_bytes messages)
      (each : EachMay (NextMessage plan run own) [] messages) where
    -- they break no rule, where what they say of the run is so
    pub messages_left : (images : List Image) → ((before : List Message) (m : Message) → NextMessage plan run own before m → IsMessageOf plan images own m)
        → HasMessages (StoreMayLeave plan images own) payloads messages
    messages_left images of =
        has_messages (StoreMayLeave plan images own) (λ before m. (tt, mark_allowed before m, tt))
        (λ before m next may. (next.fits, take_allowed before m next may, of (messages_in before) m next)) payloads messages marked are each

    -- they are the journal of a store
    pub messages_journal : HasMessages (StoreMay plan.topology plan.version own) payloads messages
    messages_journal =
        has_messages (StoreMay plan.topology plan.version own) (λ before m. (tt, mark_allowed before m, tt))
        (λ before m next may. (next.fits, take_allowed before m next may, next.greatest)) payloads messages marked are each
