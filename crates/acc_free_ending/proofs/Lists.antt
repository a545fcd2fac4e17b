-- Lists of queues, and the actors that they name.
use Rattle.std.proofs.Common.{◌≡◌, ◌⊎◌, ℕ, zero, suc, ◌+◌, ◌<◌, ◌≤◌, Bool, true, false, List, [], ◌∷◌, length, map, drop, get_or, Contains, Some, refl, sym, ◌∙◌, ap, subst, inl, inr, arith, ⊎_elim}
use Rattle.std.specs.List.{AllByRecursion, IsDistinct, slice_get, slice_set}
use Rattle.std.specs.Option.{option_map}
use Rattle.std.proofs.lemmas.Bool.{eq-eqb, eqb-true}
use Rattle.std.proofs.lemmas.Option.{none-some, same_Some, slice_get_read}
use Rattle.std.proofs.lemmas.List.{drop_more, drop_all}
use Rattle.acc_stamp.specs.declared.actors.Actor.{Actor}
use Rattle.acc_message.specs.Items.{same_actor}

-- ---- one place of a list

module _ {X : Type 0} where
  -- after a put there stands what was put, or what stood there before
  pub set_cases : (xs : List X) (i : ℕ) (y : X) (j : ℕ) (z : X) → slice_get (slice_set xs i y) j ≡ Some z → ((j ≡ i) × (z ≡ y)) ⊎ ((j ≡ i → ⊥) × (slice_get xs j ≡ Some z))
  set_cases [] i y j z e = absurd (none-some z e)
  set_cases (x ∷ xs) zero y zero z e = inl (refl, sym (same_Some y z e))
  set_cases (x ∷ xs) zero y (suc j) z e = inr ((λ is. absurd (omega (arith, is))), e)
  set_cases (x ∷ xs) (suc i) y zero z e = inr ((λ is. absurd (omega (arith, is))), e)
  set_cases (x ∷ xs) (suc i) y (suc j) z e =
      ⊎_elim (λ here. inl (ap suc here.0, here.1)) (λ there. inr ((λ is. there.0 (omega (arith, is))), there.1)) (set_cases xs i y j z e)

  -- all of a list stand at their places
  pub each_at_place : (P : X → Type 0) (xs : List X) → AllByRecursion P xs → (i : ℕ) (x : X) → slice_get xs i ≡ Some x → P x
  each_at_place P [] all i x e = absurd (none-some x e)
  each_at_place P (y ∷ xs) all zero x e = subst P (same_Some y x e) all.0
  each_at_place P (y ∷ xs) all (suc i) x e = each_at_place P xs all.1 i x e

  -- what a list contains stands at some place
  pub contained_at : (xs : List X) (x : X) → Contains xs x → (i : ℕ) × (slice_get xs i ≡ Some x)
  contained_at xs x h = (h.0, slice_get_read xs (length xs) h.0 x refl h.1 (sym h.2))

  -- ---- what is left of a list

  pub none_left : (xs : List X) (n : ℕ) → length xs ≤ n → drop n xs ≡ []
  none_left xs n le = drop_all n xs le

  pub one_left : (xs : List X) (n : ℕ) (other : X) → n < length xs → drop n xs ≡ get_or xs n other ∷ drop (n + 1) xs
  one_left xs n other lt = drop_more xs n other lt

-- ---- actors that are apart

pub apart_sym : (a b : Actor) → same_actor a b ≡ false → same_actor b a ≡ false
apart_sym a b h = by (same_actor b a) refl
  where
    by : (test : Bool) → same_actor b a ≡ test → test ≡ false
    by true is = sym (eq-eqb a.0 b.0 (sym (eqb-true b.0 a.0 is))) ∙ h
    by false is = refl

pub apart_at : (names : List Actor) → IsDistinct same_actor names → (i j : ℕ) (a b : Actor) → slice_get names i ≡ Some a → slice_get names j ≡ Some b → (i ≡ j → ⊥)
    → same_actor a b ≡ false
unfolding IsDistinct
apart_at [] h i j a b p q other = absurd (none-some a p)
apart_at (x ∷ names) h zero zero a b p q other = absurd (other refl)
apart_at (x ∷ names) h zero (suc j) a b p q other =
    subst (λ (y : Actor). same_actor y b ≡ false) (same_Some x a p) (each_at_place (λ y. same_actor x y ≡ false) names h.0 j b q)
apart_at (x ∷ names) h (suc i) zero a b p q other =
    apart_sym b a (subst (λ (y : Actor). same_actor y a ≡ false) (same_Some x b q) (each_at_place (λ y. same_actor x y ≡ false) names h.0 i a p))
apart_at (x ∷ names) h (suc i) (suc j) a b p q other = apart_at names h.1 i j a b p q (λ is. other (ap suc is))

-- what a map has at a place, and where it has something
module _ {X Y : Type 0} (f : X → Y) where
  pub mapped_at : (xs : List X) (i : ℕ) (x : X) → slice_get xs i ≡ Some x → slice_get (map f xs) i ≡ Some (f x)
  mapped_at [] i x e = absurd (none-some x e)
  mapped_at (y ∷ xs) zero x e = ap (option_map f) e
  mapped_at (y ∷ xs) (suc i) x e = mapped_at xs i x e

  pub from_map : (xs : List X) (i : ℕ) (y : Y) → slice_get (map f xs) i ≡ Some y → (x : X) × (slice_get xs i ≡ Some x) × (f x ≡ y)
  from_map [] i y e = absurd (none-some y e)
  from_map (x ∷ xs) zero y e = (x, refl, same_Some (f x) y e)
  from_map (x ∷ xs) (suc i) y e = from_map xs i y e
