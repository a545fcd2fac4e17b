-- A store that a journal gives back stands for some past of low heights, whatever run left the journal, or none did.
use Rattle.std.proofs.Common.{◌≡◌, ℕ, ◌+◌, ◌^◌, ◌≤◌, List, [], ◌∷◌, ◌++◌, length, map, reverse, refl, sym, ◌∙◌, ap, subst, arith}
use Rattle.std.specs.List.{AllByRecursion}
use Rattle.std.proofs.lemmas.Bool.{leb-true}
use Rattle.std.proofs.lemmas.List.{length-reverse, reverse-append}
use Rattle.std.proofs.lemmas.List.Elements.{All-from_recursion}
use Rattle.acc_stamp.specs.declared.actors.Actor.{Actor}
use Rattle.acc_stamp.proofs.Rising.{each_append}
use Rattle.acc_topology.specs.Layout.{Layout}
use Rattle.acc_message.specs.declared.message.Message.{Message}
use Rattle.acc_message.specs.Fields.{top_of}
use Rattle.acc_message.specs.StoreRules.{replay}
use Rattle.acc_message.specs.VoteRule.{greatest_h}
use Rattle.acc_message_code.specs.Fitting.{FitsMessage}
use Rattle.acc_message_code.specs.MessageSpelling.{message_bytes}
use Rattle.acc_payloads.specs.declared.store.StorePayload.{StorePayload}
use Rattle.acc_payloads.specs.declared.store.StorePayload.TheVariants.{Mark, Takes}
use Rattle.acc_payloads.specs.Items.{without_marks}
use Rattle.acc_payloads.specs.Journals.{EachMay, IsJournalOf}
use Rattle.acc_payloads.specs.Store.{store_bytes, FitsStore, messages_in, taken_in, IsStoreJournal, StoreMay}
use Rattle.acc_payloads.proofs.Marks.{message_no_mark}
use Rattle.acc_payloads.proofs.StoreJournals.{no_mark, same_message}
use Rattle.acc_store.proofs.Heights.{all_low}
use Rattle.acc_schedule.specs.Content.{Content}
use Rattle.acc_left.specs.declared.image.Image.{Image}
use Rattle.acc_left.specs.Rules.{greatest_height, StoreMayLeave}

-- ---- payloads have one meaning

same_payload : (x y : StorePayload) → FitsStore x → FitsStore y → store_bytes x ≡ store_bytes y → x ≡ y
same_payload Mark Mark f g e = refl
same_payload Mark (Takes m) f g e = absurd (no_mark m g e)
same_payload (Takes m) Mark f g e = absurd (no_mark m f (sym e))
same_payload (Takes m) (Takes n) f g e = ap Takes (same_message m n f g e)

heads : (a b : List ℕ) (rest more : List (List ℕ)) → a ∷ rest ≡ b ∷ more → (a ≡ b) × (rest ≡ more)
heads a b rest more is = (cc, cc)

same_items : (xs ys : List StorePayload) → AllByRecursion FitsStore xs → AllByRecursion FitsStore ys → map store_bytes xs ≡ map store_bytes ys → xs ≡ ys
same_items [] [] f g e = refl
same_items [] (y ∷ ys) f g e = absurd cc
same_items (x ∷ xs) [] f g e = absurd cc
same_items (x ∷ xs) (y ∷ ys) f g e =
    let parts = heads (store_bytes x) (store_bytes y) (map store_bytes xs) (map store_bytes ys) e in
    λ i. same_payload x y f.0 g.0 parts.0 i ∷ same_items xs ys f.1 g.1 parts.1 i

each_of : {A : Type 0} (May : List A → A → Type 0) (P : A → Type 0) → ((before : List A) (x : A) → May before x → P x) → (before items : List A)
    → EachMay May before items → AllByRecursion P items
each_of May P tells before [] each = tt
each_of May P tells before (x ∷ items) each = (tells before x each.0, each_of May P tells (before ++ x ∷ []) items each.1)

fits_in : (layout : Layout) (version : ℕ) (own : Actor) (payloads : List (List ℕ)) (items : List StorePayload) → IsStoreJournal layout version own payloads items
    → AllByRecursion FitsStore items
fits_in layout version own payloads items journal = each_of (StoreMay layout version own) FitsStore (λ before p may. may.0) [] items journal.each

-- payloads are the journal of one list of payloads
pub one_journal : (layout : Layout) (version other : ℕ) (own : Actor) (payloads : List (List ℕ)) (xs ys : List StorePayload)
    → IsStoreJournal layout version own payloads xs → IsStoreJournal layout other own payloads ys → xs ≡ ys
one_journal layout version other own payloads xs ys journal also =
    same_items xs ys (fits_in layout version own payloads xs journal) (fits_in layout other own payloads ys also) (sym journal.spelled ∙ also.spelled)

-- ---- what each of them is

abbrev IsLowMessage : Message → Type 0
IsLowMessage m = top_of m ≤ greatest_height

abbrev IsLow : StorePayload → Type 0
IsLow Mark = Unit {0}
IsLow (Takes m) = IsLowMessage m

low_messages : (items : List StorePayload) → AllByRecursion IsLow items → AllByRecursion IsLowMessage (messages_in items)
low_messages [] each = tt
low_messages (Mark ∷ items) each = low_messages items each.1
low_messages (Takes m ∷ items) each = (each.0, low_messages items each.1)

-- turned round
turned : {A : Type 0} (P : A → Type 0) (xs : List A) → AllByRecursion P xs → AllByRecursion P (reverse xs)
turned P [] each = tt
turned P (x ∷ xs) each = subst (AllByRecursion P) (sym (reverse-append (x ∷ []) xs)) (each_append P (reverse xs) (x ∷ []) (turned P xs each.1) (each.0, tt))

-- ---- how many they are

kept_one : (m : Message) (rest : List (List ℕ)) → FitsMessage m → without_marks (message_bytes m ∷ rest) ≡ message_bytes m ∷ without_marks rest
kept_one m rest fits = rw (message_no_mark m fits) refl

counted : (items : List StorePayload) → AllByRecursion FitsStore items → length (without_marks (map store_bytes items)) ≡ length (messages_in items)
counted [] each = refl
counted (Mark ∷ items) each = counted items each.1
counted (Takes m ∷ items) each =
    omega (arith, ap (λ (l : List (List ℕ)). length l) (kept_one m (map store_bytes items) each.0), counted items each.1)

-- ---- the journal of a store

module _ (plan : Content) (images : List Image) (own : Actor) where
  fits_of : (before : List StorePayload) (p : StorePayload) → StoreMayLeave plan images own before p → FitsStore p
  fits_of before p may = may.0

  low_of : (before : List StorePayload) (p : StorePayload) → StoreMayLeave plan images own before p → IsLow p
  low_of before Mark may = tt
  low_of before (Takes m) may = leb-true (top_of m) greatest_height may.2.height

  module _ (version : ℕ) (payloads : List (List ℕ)) (items read : List StorePayload)
      (journal : IsJournalOf store_bytes (StoreMayLeave plan images own) payloads items) (held : IsStoreJournal plan.topology version own payloads read) where
    fitting : AllByRecursion FitsStore items
    fitting = each_of (StoreMayLeave plan images own) FitsStore fits_of [] items journal.each

    same : items ≡ read
    same = same_items items read fitting (fits_in plan.topology version own payloads read held) (sym journal.spelled ∙ held.spelled)

    -- no height of the messages that a journal with few messages gives back is great
    pub low_store : length (without_marks payloads) ≤ 2 ^ 60 → greatest_h own (replay plan.topology own (taken_in read)) ≤ 2 ^ 61
    low_store few =
        let each = low_messages items (each_of (StoreMayLeave plan images own) IsLow low_of [] items journal.each) in
        let messages = taken_in items in
        let many : length (taken_in items) ≡ length (without_marks payloads) =
        length-reverse (messages_in items) ∙ sym (counted items fitting) ∙ ap (λ (l : List (List ℕ)). length (without_marks l)) (sym journal.spelled) in
        let low : greatest_h own (replay plan.topology own (taken_in items)) ≤ greatest_height + length (taken_in items) =
        all_low plan.topology own greatest_height (taken_in items) (All-from_recursion IsLowMessage (taken_in items) (turned IsLowMessage (messages_in items) each)) in
        subst (λ (l : List StorePayload). greatest_h own (replay plan.topology own (taken_in l)) ≤ 2 ^ 61) same (omega (arith, low, many, few))
