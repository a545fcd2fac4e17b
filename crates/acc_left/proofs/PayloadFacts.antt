-- Payloads that are read one after another, up to the first that may not stand there.
use Rattle.std.proofs.Common.{◌≡◌, ℕ, ◌+◌, ◌<◌, ◌≤◌, List, [], ◌∷◌, ◌++◌, length, map, take, drop, get_or, refl, sym, ap, subst, ◌∙◌, arith}
use Rattle.std.specs.Borrow.{Bor}
use Rattle.std.proofs.lemmas.List.{get_or-map, length-map, map-append, take_all, take-append-drop, drop_more, take_more}
use Rattle.acc_journal.specs.Layout.{records}
use Rattle.acc_journal.proofs.Readings.{one_more_long}
use Rattle.acc_left.specs.Told.{bytes_in}
use Rattle.acc_payloads.specs.Journals.{IsBadRecord, IsJournalOf}
use Rattle.acc_payloads.proofs.Journals.{each_snoc}

-- these payloads are a journal of these items, and after them stands the next gate
pub record IsReadTo {A : Type 0} (bytes : A → List ℕ) (May : List A → A → Type 0) (payloads : List (List ℕ)) (items : List A) (gate : ℕ) : Type 0 where
  pub journal : IsJournalOf bytes May payloads items
  pub gate_is : gate ≡ 1 + length (records payloads)

pub read_none : {A : Type 0} (bytes : A → List ℕ) (May : List A → A → Type 0) → IsReadTo bytes May [] [] 1
read_none bytes May = record { journal = record { spelled = refl; each = tt }; gate_is = omega arith }

-- one payload after those that were read
pub record IsNext (payloads : List (List ℕ)) (i : ℕ) (payload : List ℕ) : Type 0 where
  pub within : i < length payloads
  pub is : payload ≡ get_or payloads i payload

-- the same of payloads behind references
abbrev pub payload_at : List (Bor (List ℕ)) → ℕ → List ℕ
payload_at payloads i = (get_or payloads i (record { ref_ptr = (0, 0); now = [] })).now

pub next_in : (payloads : List (Bor (List ℕ))) (i : ℕ) → i < length payloads → IsNext (bytes_in payloads) i (payload_at payloads i)
next_in payloads i within = record {
  within = subst (λ (n : ℕ). i < n) (sym (length-map payloads (λ (p : Bor (List ℕ)). p.now))) within;
  is = sym (get_or-map (λ (p : Bor (List ℕ)). p.now) payloads i (record { ref_ptr = (0, 0); now = [] }) (payload_at payloads i) within);
}

pub all_in : (payloads : List (Bor (List ℕ))) (i : ℕ) → length payloads ≤ i → take i (bytes_in payloads) ≡ bytes_in payloads
all_in payloads i past = take_all i (bytes_in payloads) (subst (λ (n : ℕ). n ≤ i) (sym (length-map payloads (λ (p : Bor (List ℕ)). p.now))) past)

module _ {A : Type 0} (bytes : A → List ℕ) (May : List A → A → Type 0) (payloads : List (List ℕ)) (i : ℕ) (items : List A) (gate : ℕ) (payload : List ℕ)
    (so_far : IsReadTo bytes May (take i payloads) items gate) (is_next : IsNext payloads i payload) where
  more : take (i + 1) payloads ≡ take i payloads ++ payload ∷ []
  more = take_more payloads i payload is_next.within ∙ ap (λ (p : List ℕ). take i payloads ++ p ∷ []) (sym is_next.is)

  whole : payloads ≡ take i payloads ++ payload ∷ drop (i + 1) payloads
  whole =
      sym (take-append-drop i payloads)
      ∙ ap (λ (l : List (List ℕ)). take i payloads ++ l) (drop_more payloads i payload is_next.within ∙ ap (λ (p : List ℕ). p ∷ drop (i + 1) payloads) (sym is_next.is))

  pub read_more : (p : A) (next : ℕ) → payload ≡ bytes p → May items p → next ≡ gate + (5 + length payload) → IsReadTo bytes May (take (i + 1) payloads) (items ++ p ∷ []) next
  read_more p next spelled may next_is = record {
    journal = record {
      spelled =
          more ∙ ap (λ (l : List (List ℕ)). l ++ payload ∷ []) so_far.journal.spelled ∙ ap (λ (b : List ℕ). map bytes items ++ b ∷ []) spelled
          ∙ sym (map-append bytes items (p ∷ []));
      each = each_snoc May [] items p so_far.journal.each may;
    };
    gate_is = omega (arith, so_far.gate_is, next_is, one_more_long (take i payloads) (take (i + 1) payloads) payload more);
  }

  pub bad_record : ((p : A) → payload ≡ bytes p → May items p → ⊥) → IsBadRecord bytes May payloads gate
  bad_record bad = record {
    before = items;
    payload = payload;
    behind = drop (i + 1) payloads;
    whole = whole ∙ ap (λ (l : List (List ℕ)). l ++ payload ∷ drop (i + 1) payloads) so_far.journal.spelled;
    each = so_far.journal.each;
    bad = bad;
    at = so_far.gate_is ∙ ap (λ (l : List (List ℕ)). 1 + length (records l)) so_far.journal.spelled;
  }

  -- what the payload spells may not stand there, and it spells nothing else
  pub may_not : (p : A) → ((q : A) → payload ≡ bytes q → May items q → p ≡ q) → (May items p → ⊥) → IsBadRecord bytes May payloads gate
  may_not p alone refused = bad_record (λ q spelled may. refused (subst (May items) (sym (alone q spelled may)) may))
