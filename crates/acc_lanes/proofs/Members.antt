-- The elements of a list, and the greatest of them.
use Rattle.std.proofs.Common.{◌≡◌, ℕ, ◌<◌, zero, suc, Bool, true, false, ◌||◌, List, [], ◌∷◌, length, get_or, map, refl, sym, ap, subst, ◌∙◌, arith, ◌⊎◌, inl, inr, ⊎_elim, IsTrue}
use Rattle.std.specs.List.{Contains, All, filter, list_any}
use Rattle.std.proofs.lemmas.Bool.{true≢false, cond_both}
use Rattle.std.proofs.lemmas.List.Elements.{Contains-get_or}
use Rattle.std.proofs.lemmas.List.Folds.{list_any_at}
use Rattle.acc_lanes.specs.Pairs.{chosen}
use Rattle.acc_lanes.specs.Greatest.{IsGreatest}

module _ {X : Type 0} where
  pub there : (y : X) (ys : List X) (x : X) → Contains ys x → Contains (y ∷ ys) x
  there y ys x c = (suc c.0, omega (arith, c.1), c.2)

  pub first_or_rest : (y : X) (ys : List X) (x : X) → Contains (y ∷ ys) x → (y ≡ x) ⊎ Contains ys x
  first_or_rest y ys x c = split c.0 c.1 c.2
    where
      split : (k : ℕ) → k < length (y ∷ ys) → get_or (y ∷ ys) k x ≡ x → (y ≡ x) ⊎ Contains ys x
      split zero l e = inl e
      split (suc k) l e = inr (k, omega arith, e)

  pub in_nothing : (x : X) → Contains [] x → ⊥
  in_nothing x c = omega (arith, c.1)

  pub each_element : (P : X → Type 0) (xs : List X) → ((x : X) → Contains xs x → P x) → All P xs
  each_element P xs f k d l = f (get_or xs k d) (Contains-get_or xs k d l)

  pub of_element : (P : X → Type 0) (xs : List X) (x : X) → All P xs → Contains xs x → P x
  of_element P xs x a c = subst P c.2 (a c.0 x c.1)

  pub Contains-filter : (p : X → Bool) (xs : List X) (x : X) → Contains xs x → p x ≡ true → Contains (filter p xs) x
  Contains-filter p [] x c e = absurd (in_nothing x c)
  Contains-filter p (y ∷ ys) x c e =
      cond_both (p y) (y ∷ filter p ys) (filter p ys) (λ zs. Contains zs x)
      (λ _. ⊎_elim (λ s. (0, omega arith, s)) (λ r. there y (filter p ys) x (Contains-filter p ys x r e)) (first_or_rest y ys x c))
      (λ f. ⊎_elim (λ s. absurd (true≢false (sym e ∙ ap p (sym s) ∙ f))) (λ r. Contains-filter p ys x r e) (first_or_rest y ys x c))

  pub Contains-from_filter : (p : X → Bool) (xs : List X) (x : X) → Contains (filter p xs) x → Contains xs x × (p x ≡ true)
  Contains-from_filter p [] x c = absurd (in_nothing x c)
  Contains-from_filter p (y ∷ ys) x c =
      cond_both (p y) (y ∷ filter p ys) (filter p ys) (λ zs. Contains zs x → Contains (y ∷ ys) x × (p x ≡ true))
      (λ t d. ⊎_elim (λ s. ((0, omega arith, s), ap p (sym s) ∙ t)) (λ r. let q = Contains-from_filter p ys x r in (there y ys x q.0, q.1)) (first_or_rest y (filter p ys) x d))
      (λ _ d. let q = Contains-from_filter p ys x d in (there y ys x q.0, q.1))
      c

module _ {X Y : Type 0} where
  pub Contains-map : (f : X → Y) (xs : List X) (x : X) → Contains xs x → Contains (map f xs) (f x)
  Contains-map f [] x c = absurd (in_nothing x c)
  Contains-map f (y ∷ ys) x c =
      ⊎_elim (λ s. (0, omega arith, ap f s)) (λ r. there (f y) (map f ys) (f x) (Contains-map f ys x r)) (first_or_rest y ys x c)

  pub Contains-from_map : (f : X → Y) (xs : List X) (y : Y) → Contains (map f xs) y → (x : X) × Contains xs x × (f x ≡ y)
  Contains-from_map f [] y c = absurd (in_nothing y c)
  Contains-from_map f (x ∷ xs) y c =
      ⊎_elim (λ s. (x, (0, omega arith, refl), s)) (λ r. let q = Contains-from_map f xs y r in (q.0, there x xs q.0 q.1, q.2)) (first_or_rest (f x) (map f xs) y c)

-- ---- the greatest element

module _ {X : Type 0} (le : X → X → Bool) where
  pub greatest_from : (xs : List X) (s : X) → Contains xs s → ((x : X) → Contains xs x → le x s ≡ true) → IsGreatest le xs s
  greatest_from xs s c f = record { among = c; above = each_element (λ y. IsTrue (le y s)) xs f }

  -- it is that of every list with the same elements
  pub greatest_like : (xs ys : List X) (s : X) → ((x : X) → Contains xs x → Contains ys x) → ((x : X) → Contains ys x → Contains xs x) → IsGreatest le xs s → IsGreatest le ys s
  greatest_like xs ys s to from g = greatest_from ys s (to s g.among) (λ x c. of_element (λ y. IsTrue (le y s)) xs x g.above (from x c))

  pub greatest_above : (xs : List X) (s x : X) → IsGreatest le xs s → Contains xs x → le x s ≡ true
  greatest_above xs s x g c = of_element (λ y. IsTrue (le y s)) xs x g.above c

-- ---- the elements that a mask chooses

module _ {X : Type 0} where
  pub Contains-chosen : (ms : List Bool) (xs : List X) (i : ℕ) (d : X) → i < length ms → i < length xs → get_or ms i false ≡ true → Contains (chosen ms xs) (get_or xs i d)
  Contains-chosen [] xs i d p q e = absurd (omega arith)
  Contains-chosen (m ∷ ms) [] i d p q e = absurd (omega arith)
  Contains-chosen (true ∷ ms) (x ∷ xs) zero d p q e = (0, omega arith, refl)
  Contains-chosen (false ∷ ms) (x ∷ xs) zero d p q e = absurd (true≢false (sym e))
  Contains-chosen (true ∷ ms) (x ∷ xs) (suc i) d p q e = there x (chosen ms xs) (get_or xs i d) (Contains-chosen ms xs i d (omega arith) (omega arith) e)
  Contains-chosen (false ∷ ms) (x ∷ xs) (suc i) d p q e = Contains-chosen ms xs i d (omega arith) (omega arith) e

  -- where a chosen element stands
  abbrev pub StandsAt : List Bool → List X → X → ℕ → Type 0
  StandsAt ms xs x i = (i < length ms) × (i < length xs) × (get_or ms i false ≡ true) × ((d : X) → get_or xs i d ≡ x)

  pub Contains-from_chosen : (ms : List Bool) (xs : List X) (x : X) → Contains (chosen ms xs) x → (i : ℕ) × StandsAt ms xs x i
  Contains-from_chosen [] xs x c = absurd (in_nothing x c)
  Contains-from_chosen (m ∷ ms) [] x c = absurd (in_nothing x c)
  Contains-from_chosen (true ∷ ms) (y ∷ xs) x c =
      ⊎_elim
      (λ s. (0, (omega arith, omega arith, refl, λ d. s)))
      (λ r. let q = Contains-from_chosen ms xs x r in (suc q.0, (omega (arith, q.1.0), omega (arith, q.1.1), q.1.2, q.1.3)))
      (first_or_rest y (chosen ms xs) x c)
  Contains-from_chosen (false ∷ ms) (y ∷ xs) x c =
      let q = Contains-from_chosen ms xs x c in (suc q.0, (omega (arith, q.1.0), omega (arith, q.1.1), q.1.2, q.1.3))

  -- a test that some element passes
  pub passing : (p : X → Bool) (xs : List X) → list_any p xs ≡ true → (x : X) × Contains xs x × (p x ≡ true)
  passing p [] e = absurd (true≢false (sym e))
  passing p (x ∷ xs) e =
      elim (p x) as (λ b. p x ≡ b → (b || list_any p xs) ≡ true → (y : X) × Contains (x ∷ xs) y × (p y ≡ true)) [
        | true ↦ λ t _. (x, (0, omega arith, refl), t)
        | false ↦ λ _ r. let q = passing p xs r in (q.0, there x xs q.0 q.1, q.2)
      ] refl e

  pub passed : (p : X → Bool) (xs : List X) (x : X) → Contains xs x → p x ≡ true → list_any p xs ≡ true
  passed p xs x c e = list_any_at p xs c.0 x c.1 (ap p c.2 ∙ e)

  pub nothing_in : (xs : List X) → ((x : X) → Contains xs x → ⊥) → xs ≡ []
  nothing_in [] f = refl
  nothing_in (x ∷ xs) f = absurd (f x (0, omega arith, refl))
