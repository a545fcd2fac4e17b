-- Slots behind a put.
use Rattle.std.proofs.Common.{◌≡◌, ℕ, zero, suc, ◌+◌, ◌<◌, ◌==◌, Bool, true, false, cond, List, [], ◌∷◌, ◌++◌, length, filter, refl, sym, ◌∙◌, ap, arith, get_or-set_same, get_or-set_other, add-one}
use Rattle.std.proofs.lemmas.Bool.{true≢false, eq-eqb, eqb-true}
use Rattle.std.proofs.lemmas.List.Elements.{filter-append}
use Rattle.std.specs.List.{slice_index_or, slice_set, range_with_len}
use Rattle.acc_topology.specs.Sets.{numbers, in_set, members}
use Rattle.acc_actors.specs.declared.slot.Slot.{Slot}
use Rattle.acc_actors.specs.declared.slot.Slot.TheVariants.{Empty}

module _ {D : Type 0} where
  pub placed : (before slots : List (Slot D)) (place : ℕ) (slot : Slot D) → place < length slots → ((k : ℕ) → slice_index_or slots k Empty ≡ slice_index_or before k Empty)
      → (k : ℕ) → slice_index_or (slice_set slots place slot) k Empty ≡ cond (k == place) slot (slice_index_or before k Empty)
  placed before slots place slot low same k = by (k == place) refl
    where
      by : (b : Bool) → (k == place) ≡ b → slice_index_or (slice_set slots place slot) k Empty ≡ cond b slot (slice_index_or before k Empty)
      by true is = ap (λ i. slice_index_or (slice_set slots place slot) i Empty) (eqb-true k place is) ∙ get_or-set_same slots place slot Empty low
      by false is = get_or-set_other slots place k slot Empty (λ e. true≢false (sym (eq-eqb k place e) ∙ is)) ∙ same k

-- ---- the numbers of a set

range_push : (from n : ℕ) → range_with_len from (suc n) ≡ range_with_len from n ++ (from + n) ∷ []
range_push from zero = ap (λ (k : ℕ). k ∷ []) (omega arith)
range_push from (suc n) =
    let there : from + 1 + n ≡ from + suc n = omega arith in
    ap (λ rest. from ∷ rest) (range_push (from + 1) n ∙ ap (λ (k : ℕ). range_with_len (from + 1) n ++ k ∷ []) there)

pub members_more : (set n : ℕ) → filter (in_set set) (range_with_len 0 (n + 1)) ≡ filter (in_set set) (range_with_len 0 n) ++ cond (in_set set n) (n ∷ []) []
members_more set n =
    let none : 0 + n ≡ n = omega arith in
    rw add-one (ap (filter (in_set set)) (range_push 0 n ∙ ap (λ (k : ℕ). range_with_len 0 n ++ k ∷ []) none) ∙ filter-append (in_set set) (range_with_len 0 n) (n ∷ []))

pub members_are : (set : ℕ) → filter (in_set set) (range_with_len 0 16) ≡ members set
unfolding numbers
members_are set = refl
