-- The journals of nodes and stores break no rule on marks.
use Rattle.std.proofs.Common.{◌≡◌, ℕ, ◌^◌, Bool, true, false, not, ◌||◌, ◌&&◌, ltb, List, [], ◌∷◌, ◌++◌, map, refl, sym, ap, subst, ◌∙◌}
use Rattle.std.specs.List.{list_any}
use Rattle.std.specs.Str.{bytes_eq}
use Rattle.std.proofs.lemmas.List.{map-append}
use Rattle.std.proofs.lemmas.List.Folds.{list_any-append}
use Rattle.acc_stamp.specs.declared.actors.Actor.{Actor}
use Rattle.acc_topology.specs.Layout.{Layout}
use Rattle.acc_message.specs.Fields.{top_of}
use Rattle.acc_message_code.specs.MessageSpelling.{message_bytes}
use Rattle.acc_payloads.specs.declared.node.NodePayload.{NodePayload}
use Rattle.acc_payloads.specs.declared.node.NodePayload.TheVariants.{Mark, Draws}
use Rattle.acc_payloads.specs.declared.store.StorePayload.{StorePayload}
use Rattle.acc_payloads.specs.declared.store.StorePayload.TheVariants.{Mark as StoreMark, Takes}
use Rattle.acc_payloads.specs.Spelling.{mark_bytes, draw_bytes}
use Rattle.acc_payloads.specs.Texts.{has_text}
use Rattle.acc_payloads.specs.Journals.{EachMay, may_mark}
use Rattle.acc_payloads.specs.Node.{node_bytes, NodeMay, IsNodeJournal, is_mark, has_mark}
use Rattle.acc_payloads.specs.Store as store
use Rattle.acc_payloads.specs.Items.{has_mark_among, MayBeMarked, AreMarked}
use Rattle.acc_payloads.proofs.StoreJournals.{no_mark, same_message}
use Rattle.acc_payloads.proofs.Marks.{draw_no_mark, message_no_mark, no_draw}

abbrev is_marked : List ℕ → Bool
is_marked payload = bytes_eq payload mark_bytes

-- ---- journals of any kind

module _ {A : Type 0} (bytes : A → List ℕ) (mark_in : A → Bool) (version : ℕ) (May : List A → A → Type 0)
    (one : (before : List A) (x : A) → May before x → is_marked (bytes x) ≡ mark_in x)
    (may : (before : List A) (x : A) → May before x → has_mark_among (map bytes before) ≡ list_any mark_in before → MayBeMarked version (map bytes before) (bytes x)) where
  marked_more : (before : List A) (x : A) → May before x → has_mark_among (map bytes before) ≡ list_any mark_in before
      → has_mark_among (map bytes (before ++ x ∷ [])) ≡ list_any mark_in (before ++ x ∷ [])
  marked_more before x m e =
      ap has_mark_among (map-append bytes before (x ∷ [])) ∙ list_any-append is_marked (map bytes before) (bytes x ∷ [])
      ∙ ap (λ (b : Bool). b || (is_marked (bytes x) || false)) e ∙ ap (λ (b : Bool). list_any mark_in before || (b || false)) (one before x m)
      ∙ sym (list_any-append mark_in before (x ∷ []))

  each_marked : (before items : List A) → has_mark_among (map bytes before) ≡ list_any mark_in before → EachMay May before items
      → EachMay (MayBeMarked version) (map bytes before) (map bytes items)
  each_marked before [] e each = tt
  each_marked before (x ∷ items) e each = (
    may before x each.0 e,
    subst (λ (l : List (List ℕ)). EachMay (MayBeMarked version) l (map bytes items)) (map-append bytes before (x ∷ []))
        (each_marked (before ++ x ∷ []) items (marked_more before x each.0 e) each.1),
  )

  pub are_marked : (items : List A) → EachMay May [] items → AreMarked version (map bytes items)
  are_marked items each = each_marked [] items refl each

-- ---- of nodes

node_mark : (p : NodePayload) → is_marked (node_bytes p) ≡ is_mark p
node_mark Mark = refl
node_mark (Draws d) = draw_no_mark d

differ : (payload : List ℕ) → is_marked payload ≡ false → payload ≡ mark_bytes → ⊥
differ payload e same = let yes : is_marked payload ≡ true = ap is_marked same in cc

no_mark_texts : (version : ℕ) (before : List (List ℕ)) → may_mark version (has_mark_among before) ≡ true → MayBeMarked version before mark_bytes
no_mark_texts version before may = record { marks = λ _. may; texts = λ m fits e text. absurd (no_mark m fits e) }

node_may : (version start : ℕ) (before : List NodePayload) (p : NodePayload) → NodeMay version start before p
    → has_mark_among (map node_bytes before) ≡ has_mark before → MayBeMarked version (map node_bytes before) (node_bytes p)
node_may version start before Mark may e = no_mark_texts version (map node_bytes before) (ap (may_mark version) e ∙ may.1)
node_may version start before (Draws d) may e = record {
  marks = λ same. absurd (differ (draw_bytes d) (draw_no_mark d) same);
  texts = λ m fits same text. absurd (no_draw d m same);
}

pub node_marked : (version start : ℕ) (payloads : List (List ℕ)) (items : List NodePayload) → IsNodeJournal version start payloads items → AreMarked version payloads
node_marked version start payloads items journal =
    subst (AreMarked version) (sym journal.spelled)
    (are_marked node_bytes is_mark version (NodeMay version start) (λ before p may. node_mark p) (node_may version start) items journal.each)

-- ---- of stores

store_mark : (p : StorePayload) → store.FitsStore p → is_marked (store.store_bytes p) ≡ store.is_mark p
store_mark StoreMark fits = refl
store_mark (Takes m) fits = message_no_mark m fits

-- a text value stands after a mark
text_marked : (a b text marked : Bool) → (a && b && (not text || marked)) ≡ true → text ≡ true → marked ≡ true
text_marked true true true marked may e = may
text_marked true true false marked may e = absurd (let f : false ≡ true = e in cc)
text_marked true false text marked may e = absurd (let f : false ≡ true = may in cc)
text_marked false b text marked may e = absurd (let f : false ≡ true = may in cc)

store_may : (layout : Layout) (version : ℕ) (own : Actor) (before : List StorePayload) (p : StorePayload) → store.StoreMay layout version own before p
    → has_mark_among (map store.store_bytes before) ≡ store.has_mark before → MayBeMarked version (map store.store_bytes before) (store.store_bytes p)
store_may layout version own before StoreMark may e = no_mark_texts version (map store.store_bytes before) (ap (may_mark version) e ∙ may.1)
store_may layout version own before (Takes m) may e = record {
  marks = λ same. absurd (differ (message_bytes m) (message_no_mark m may.0) same);
  texts = λ n fits same text.
      let one : n ≡ m = same_message n m fits may.0 (sym same) in
      e ∙ text_marked (store.is_for own m) (ltb (top_of m) (2 ^ 62)) (has_text m) (store.has_mark before) may.1 (ap has_text (sym one) ∙ text);
}

pub store_marked : (layout : Layout) (version : ℕ) (own : Actor) (payloads : List (List ℕ)) (items : List StorePayload) → store.IsStoreJournal layout version own payloads items → AreMarked version payloads
store_marked layout version own payloads items journal =
    subst (AreMarked version) (sym journal.spelled)
    (are_marked store.store_bytes store.is_mark version (store.StoreMay layout version own) (λ before p may. store_mark p may.0) (store_may layout version own) items journal.each)
