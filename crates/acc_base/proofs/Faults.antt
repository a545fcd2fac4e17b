-- What follows where rules are kept or broken.
use Rattle.std.proofs.Common.{◌≡◌, ◌⊎◌, ℕ, zero, suc, ◌+◌, ◌<◌, Bool, true, false, List, [], ◌∷◌, length, map, get_or, drop, Option, Some, None, refl, sym, ap, subst, ◌∙◌, inl, inr, arith, add-one, add-zero, zero-add, drop-cons}
use Rattle.std.specs.List.{AllByRecursion}
use Rattle.acc_base.specs.Faults.{◌then◌, must, each}

module _ {E : Type 0} where
  pub then_none : (f g : Option E) → (f then g) ≡ None → (f ≡ None) × (g ≡ None)
  then_none None g h = (refl, h)
  then_none (Some e) g h = absurd cc

  pub both_none : (f g : Option E) → f ≡ None → g ≡ None → (f then g) ≡ None
  both_none f g a b = ap (λ x. x then g) a ∙ b

  -- the fault of two rules is that of the first, or the first has none
  pub then_broken : (f g : Option E) (e : E) → (f then g) ≡ Some e → (f ≡ Some e) ⊎ ((f ≡ None) × (g ≡ Some e))
  then_broken None g e h = inr (refl, h)
  then_broken (Some other) g e h = inl h

  pub must_none : (test : Bool) (fault : E) → must test fault ≡ None → test ≡ true
  must_none true fault h = refl
  must_none false fault h = absurd cc

  pub must_kept : (test : Bool) (fault : E) → test ≡ true → must test fault ≡ None
  must_kept test fault h = ap (λ b. must b fault) h

  -- a broken rule answers its own fault
  pub must_broken : (test : Bool) (fault e : E) → must test fault ≡ Some e → (test ≡ false) × (fault ≡ e)
  must_broken true fault e h = absurd cc
  must_broken false fault e h = (refl, cc)

  module _ {A : Type 0} where
    -- a rule that holds of each element holds at each place
    pub each_at : (rule : ℕ → A → Option E) (xs : List A) (from i : ℕ) (d : A) → each rule from xs ≡ None → i < length xs → rule (from + i) (get_or xs i d) ≡ None
    each_at rule [] from i d h lt = absurd (omega arith)
    each_at rule (x ∷ xs) from zero d h lt = rw add-zero (then_none (rule from x) (each rule (from + 1) xs) h).0
    each_at rule (x ∷ xs) from (suc i) d h lt =
        let there : from + 1 + i ≡ from + suc i = omega arith in
        subst (λ (k : ℕ). rule k (get_or xs i d) ≡ None) there (each_at rule xs (from + 1) i d (then_none (rule from x) (each rule (from + 1) xs) h).1 (omega arith))

    pub each_from_0 : (rule : ℕ → A → Option E) (xs : List A) (i : ℕ) (d : A) → each rule 0 xs ≡ None → i < length xs → rule i (get_or xs i d) ≡ None
    each_from_0 rule xs i d h lt = subst (λ (k : ℕ). rule k (get_or xs i d) ≡ None) (zero-add i) (each_at rule xs 0 i d h lt)

    -- what each rule says of its element
    pub each_all : {X : Type 0} (rule : ℕ → A → Option E) (value : A → X) (P : X → Type 0) → ((i : ℕ) (x : A) → rule i x ≡ None → P (value x)) → (xs : List A) (from : ℕ) → each rule from xs ≡ None → AllByRecursion P (map value xs)
    each_all rule value P says [] from h = tt
    each_all rule value P says (x ∷ xs) from h =
        let parts = then_none (rule from x) (each rule (from + 1) xs) h in
        (says from x parts.0, each_all rule value P says xs (from + 1) parts.1)

    -- where the rule holds of the next element, the rest behind it decides
    pub each_goes_on : (rule : ℕ → A → Option E) (xs : List A) (i : ℕ) (d : A) (total : Option E) → i < length xs → rule i (get_or xs i d) ≡ None → each rule i (drop i xs) ≡ total → each rule (i + 1) (drop (i + 1) xs) ≡ total
    each_goes_on rule xs i d total lt holds so_far =
        let cut : drop i xs ≡ get_or xs i d ∷ drop (i + 1) xs = rw add-one (drop-cons xs i d lt) in
        ap (λ f. f then each rule (i + 1) (drop (i + 1) xs)) (sym holds) ∙ ap (each rule i) (sym cut) ∙ so_far

    pub each_fails : (rule : ℕ → A → Option E) (xs : List A) (i : ℕ) (d : A) (total : Option E) (fault : E) → i < length xs → rule i (get_or xs i d) ≡ Some fault → each rule i (drop i xs) ≡ total → total ≡ Some fault
    each_fails rule xs i d total fault lt fails so_far =
        let cut : drop i xs ≡ get_or xs i d ∷ drop (i + 1) xs = rw add-one (drop-cons xs i d lt) in
        sym so_far ∙ ap (each rule i) cut ∙ ap (λ f. f then each rule (i + 1) (drop (i + 1) xs)) fails

    -- the element whose rule is broken
    pub record Broken (rule : ℕ → A → Option E) (xs : List A) (from : ℕ) (d : A) (e : E) : Type 0 where
      pub place : ℕ
      pub within : place < length xs
      pub here : rule (from + place) (get_or xs place d) ≡ Some e

    pub broken : (rule : ℕ → A → Option E) (xs : List A) (from : ℕ) (d : A) (e : E) → each rule from xs ≡ Some e → Broken rule xs from d e
    broken rule [] from d e h = absurd cc
    broken rule (x ∷ xs) from d e h =
        elim (then_broken (rule from x) (each rule (from + 1) xs) e h) [
          | inl here ↦ record { place = 0; within = omega arith; here = rw add-zero here }
          | inr later ↦ let b = broken rule xs (from + 1) d e later.1 in
              let there : from + 1 + b.place ≡ from + suc b.place = omega arith in
              record { place = suc b.place; within = omega (arith, b.within); here = subst (λ (k : ℕ). rule k (get_or xs b.place d) ≡ Some e) there b.here }
        ]
