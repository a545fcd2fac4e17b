-- A list of which the first elements have changed one by one, and the others not yet.
use Rattle.std.proofs.Common.{◌≡◌, ℕ, zero, suc, ◌+◌, ◌<◌, ◌≤◌, List, [], ◌∷◌, length, map, set, get_or, add-one, sym, ap, subst, arith}
use Rattle.std.specs.List.{AllByRecursion}

-- so many of the first ones have the first property, and the others the second
abbrev pub Split : {X : Type 0} → ℕ → (X → Type 0) → (X → Type 0) → List X → Type 0
Split zero P Q xs = AllByRecursion Q xs
Split (suc i) P Q [] = Unit {0}
Split (suc i) P Q (x ∷ xs) = P x × Split i P Q xs

module _ {X : Type 0} (P Q : X → Type 0) where
  pub next_of : (xs : List X) (i : ℕ) (d : X) → i < length xs → Split i P Q xs → Q (get_or xs i d)
  next_of [] zero d less s = absurd (omega arith)
  next_of [] (suc i) d less s = absurd (omega arith)
  next_of (x ∷ xs) zero d less s = s.0
  next_of (x ∷ xs) (suc i) d less s = next_of xs i d (omega arith) s.1

  changed : (xs : List X) (i : ℕ) (v : X) → i < length xs → P v → Split i P Q xs → Split (suc i) P Q (set xs i v)
  changed [] i v less p s = absurd (omega arith)
  changed (x ∷ xs) zero v less p s = (p, s.1)
  changed (x ∷ xs) (suc i) v less p s = (s.0, changed xs i v (omega arith) p s.1)

  pub change_more : (xs : List X) (i : ℕ) (v : X) → i < length xs → P v → Split i P Q xs → Split (i + 1) P Q (set xs i v)
  change_more xs i v less p s = subst (λ (n : ℕ). Split n P Q (set xs i v)) (sym (add-one i)) (changed xs i v less p s)

  pub all_changed : (xs : List X) (i : ℕ) → length xs ≤ i → Split i P Q xs → AllByRecursion P xs
  all_changed [] i past s = tt
  all_changed (x ∷ xs) zero past s = absurd (omega arith)
  all_changed (x ∷ xs) (suc i) past s = (s.0, all_changed xs i (omega arith) s.1)

-- a change that keeps a property
pub all_set : {X : Type 0} (P : X → Type 0) (xs : List X) (i : ℕ) (v : X) → P v → AllByRecursion P xs → AllByRecursion P (set xs i v)
all_set P [] i v p all = tt
all_set P (x ∷ xs) zero v p all = (p, all.1)
all_set P (x ∷ xs) (suc i) v p all = (all.0, all_set P xs i v p all.1)

-- a change that leaves what is seen of an element
pub map_kept : {X Y : Type 0} (f : X → Y) (xs : List X) (i : ℕ) (v d : X) → i < length xs → f v ≡ f (get_or xs i d) → map f (set xs i v) ≡ map f xs
map_kept f [] i v d less is = absurd (omega arith)
map_kept f (x ∷ xs) zero v d less is = ap (λ y. y ∷ map f xs) is
map_kept f (x ∷ xs) (suc i) v d less is = ap (λ ys. f x ∷ ys) (map_kept f xs i v d (omega arith) is)
