-- Journals of stores.
use Rattle.std.proofs.Common.{◌≡◌, ℕ, ◌^◌, ◌<◌, Bool, true, false, not, cond, ◌&&◌, ◌||◌, ltb, List, [], ◌∷◌, ◌++◌, reverse, append_assoc, Result, Ok, Err, refl, sym, ap, subst, ◌∙◌, map}
use Rattle.std.proofs.lemmas.Bool.{lt-ltb}
use Rattle.std.proofs.lemmas.List.{map-append, reverse-append}
use Rattle.std.proofs.lemmas.List.Folds.{list_any-append}
use Rattle.acc_wire.specs.declared.error.WireError.{WireError}
use Rattle.acc_wire.specs.declared.error.WireKind.TheVariants.{Range}
use Rattle.acc_wire.proofs.Fields.{field_once}
use Rattle.acc_stamp.specs.declared.actors.Actor.{Actor}
use Rattle.acc_topology.specs.Layout.{Layout}
use Rattle.acc_code.specs.declared.error.CodeError.TheVariants.{Wire}
use Rattle.acc_code.specs.Reading.{between_at}
use Rattle.acc_message.specs.declared.message.Message.{Message}
use Rattle.acc_message.specs.Fields.{top_of}
use Rattle.acc_message.specs.VoteRule.{greatest_h}
use Rattle.acc_message.specs.StoreRules.{replay}
use Rattle.acc_message_code.specs.Fitting.{FitsMessage}
use Rattle.acc_message_code.specs.MessageSpelling.{message_bytes}
use Rattle.acc_message_code.specs.MessageReading.{message_at, message_of}
use Rattle.acc_message_code.proofs.MessageFormat.{message_field, gives_only}
use Rattle.acc_payloads.specs.declared.store.StorePayload.{StorePayload}
use Rattle.acc_payloads.specs.declared.store.StorePayload.TheVariants.{Mark, Takes}
use Rattle.acc_payloads.specs.Spelling.{mark_bytes}
use Rattle.acc_payloads.specs.Journals.{IsBadRecord, may_mark}
use Rattle.acc_payloads.specs.Texts.{has_text}
use Rattle.acc_payloads.specs.Store.{store_bytes, StoreMay, IsStoreJournal, is_mark, has_mark, messages_in, taken_in, is_for, may_take, IsNextFor, GrowsBy}
use Rattle.acc_payloads.proofs.Journals.{each_snoc, each_alike, never}
use Rattle.acc_payloads.proofs.NodeJournals.{due, not_due}

-- ---- payloads

mark_is_read : message_of mark_bytes ≡ Err (record { kind = Range; place = 0 })
unfolding message_of message_at between_at
mark_is_read = refl

abbrev no_message : WireError
no_message = record { kind = Range; place = 0 }

abbrev read : Message → Result Message WireError
read m = Ok m

differ : (m : Message) → read m ≡ Err no_message → ⊥
differ m e = cc

pub no_mark : (m : Message) → FitsMessage m → mark_bytes ≡ message_bytes m → ⊥
no_mark m fits e =
    differ m (gives_only mark_bytes (Err (Wire no_message)) mark_is_read m fits e)

one_end : (a b : List ℕ) → a ≡ b → a ++ [] ≡ b ++ []
one_end a b e = ap (λ (l : List ℕ). l ++ []) e

pub same_message : (m n : Message) → FitsMessage m → FitsMessage n → message_bytes m ≡ message_bytes n → m ≡ n
same_message m n f g e = (field_once message_field m n [] [] f g (one_end (message_bytes m) (message_bytes n) e)).0

pub same_payload : (layout : Layout) (version : ℕ) (own : Actor) (b c : List StorePayload) (x y : StorePayload) → StoreMay layout version own b x → StoreMay layout version own c y → store_bytes x ≡ store_bytes y → x ≡ y
same_payload layout version own b c Mark Mark f g e = refl
same_payload layout version own b c Mark (Takes m) f g e = absurd (no_mark m g.0 e)
same_payload layout version own b c (Takes m) Mark f g e = absurd (no_mark m f.0 (sym e))
same_payload layout version own b c (Takes m) (Takes n) f g e = ap Takes (same_message m n f.0 g.0 e)

pub never_bad : (layout : Layout) (version : ℕ) (own : Actor) (payloads : List (List ℕ)) (items : List StorePayload) → IsStoreJournal layout version own payloads items
    → (place : ℕ) → IsBadRecord store_bytes (StoreMay layout version own) payloads place → ⊥
never_bad layout version own payloads items journal place bad = never (StoreMay layout version own) store_bytes (same_payload layout version own) payloads items journal place bad

-- ---- one message more

messages_more : (items : List StorePayload) (m : Message) → messages_in (items ++ Takes m ∷ []) ≡ messages_in items ++ m ∷ []
messages_more [] m = refl
messages_more (Mark ∷ items) m = messages_more items m
messages_more (Takes n ∷ items) m = ap (λ (l : List Message). n ∷ l) (messages_more items m)

messages_marked : (items : List StorePayload) → messages_in (items ++ Mark ∷ []) ≡ messages_in items
messages_marked [] = refl
messages_marked (Mark ∷ items) = messages_marked items
messages_marked (Takes n ∷ items) = ap (λ (l : List Message). n ∷ l) (messages_marked items)

pub taken_more : (items : List StorePayload) (m : Message) → taken_in (items ++ Takes m ∷ []) ≡ m ∷ taken_in items
taken_more items m = ap reverse (messages_more items m) ∙ reverse-append (messages_in items) (m ∷ [])

pub taken_marked : (items : List StorePayload) → taken_in (items ++ Mark ∷ []) ≡ taken_in items
taken_marked items = ap reverse (messages_marked items)

or_true : (b : Bool) → (b || true) ≡ true
or_true true = refl
or_true false = refl

or_false : (b : Bool) → (b || false) ≡ b
or_false true = refl
or_false false = refl

three : (a b c : Bool) → a ≡ true → b ≡ true → c ≡ true → (a && b && c) ≡ true
three true true true e f g = refl
three true true false e f g = g
three true false c e f g = f
three false b c e f g = e

-- a text value is allowed after a mark
texts_allowed : (text marked : Bool) → (text ≡ true → marked ≡ true) → (not text || marked) ≡ true
texts_allowed true true h = refl
texts_allowed true false h = h refl
texts_allowed false marked h = refl

module _ (layout : Layout) (version : ℕ) (own : Actor) (payloads : List (List ℕ)) (items : List StorePayload) (m : Message)
    (journal : IsStoreJournal layout version own payloads items) (next : IsNextFor layout version own (taken_in items) m) where
  may : (marked : Bool) → (has_text m ≡ true → marked ≡ true) → may_take own marked m ≡ true
  may marked texts =
      three (is_for own m) (ltb (top_of m) (2 ^ 62)) (not (has_text m) || marked) next.goes_to (lt-ltb (top_of m) (2 ^ 62) next.top) (texts_allowed (has_text m) marked texts)

  -- where no mark is due, version 2 has one already
  marked_enough : (b : Bool) → may_mark version b ≡ false → has_text m ≡ true → b ≡ true
  marked_enough true e text = refl
  marked_enough false e text = let v : version ≡ 2 = next.texts text in let f : may_mark 2 false ≡ false = subst (λ (n : ℕ). may_mark n false ≡ false) v e in sym f

  unmarked : may_mark version (has_mark items) ≡ false → GrowsBy layout version own payloads items m
  unmarked e = record {
    later = items ++ Takes m ∷ [];
    journal = record {
      spelled = ap (λ (b : Bool). payloads ++ cond b (mark_bytes ∷ message_bytes m ∷ []) (message_bytes m ∷ [])) e ∙ ap (λ (l : List (List ℕ)). l ++ message_bytes m ∷ []) journal.spelled ∙ sym (map-append store_bytes items (Takes m ∷ []));
      each = each_snoc (StoreMay layout version own) [] items (Takes m) journal.each (next.fits, may (has_mark items) (marked_enough (has_mark items) e), next.greatest);
    };
    taken = taken_more items m;
    marked = list_any-append is_mark items (Takes m ∷ []) ∙ or_false (has_mark items) ∙ not_due version (has_mark items) e;
  }

  abbrev marked_items : List StorePayload
  marked_items = items ++ Mark ∷ []

  is_marked : has_mark marked_items ≡ true
  is_marked = list_any-append is_mark items (Mark ∷ []) ∙ or_true (has_mark items)

  marked : may_mark version (has_mark items) ≡ true → GrowsBy layout version own payloads items m
  marked e = record {
    later = marked_items ++ Takes m ∷ [];
    journal = record {
      spelled = ap (λ (b : Bool). payloads ++ cond b (mark_bytes ∷ message_bytes m ∷ []) (message_bytes m ∷ [])) e ∙ ap (λ (l : List (List ℕ)). l ++ mark_bytes ∷ message_bytes m ∷ []) journal.spelled
          ∙ sym (map-append store_bytes items (Mark ∷ Takes m ∷ [])) ∙ ap (map store_bytes) (sym (append_assoc items (Mark ∷ []) (Takes m ∷ [])));
      each = each_snoc (StoreMay layout version own) [] marked_items (Takes m) (each_snoc (StoreMay layout version own) [] items Mark journal.each (tt, e, tt))
          (next.fits, may (has_mark marked_items) (λ text. is_marked), subst (λ (l : List Message). greatest_h own (replay layout own l) < 2 ^ 62) (sym (taken_marked items)) next.greatest);
    };
    taken = taken_more marked_items m ∙ ap (λ (l : List Message). m ∷ l) (taken_marked items);
    marked = list_any-append is_mark marked_items (Takes m ∷ []) ∙ or_false (has_mark marked_items) ∙ is_marked ∙ due version (has_mark items) e;
  }

  either : (b : Bool) → may_mark version (has_mark items) ≡ b → GrowsBy layout version own payloads items m
  either true e = marked e
  either false e = unmarked e

  pub grows : GrowsBy layout version own payloads items m
  grows = either (may_mark version (has_mark items)) refl

-- ---- versions

higher : (layout : Layout) (own : Actor) (before : List StorePayload) (p : StorePayload) → StoreMay layout 1 own before p → StoreMay layout 2 own before p
higher layout own before Mark may = absurd (let e : false ≡ true = may.1 in cc)
higher layout own before (Takes m) may = may

pub read_higher : (layout : Layout) (own : Actor) (payloads : List (List ℕ)) (items : List StorePayload) → IsStoreJournal layout 1 own payloads items → IsStoreJournal layout 2 own payloads items
read_higher layout own payloads items journal = record { spelled = journal.spelled; each = each_alike (StoreMay layout 1 own) (StoreMay layout 2 own) (higher layout own) [] items journal.each }
