-- Two footprints clash: step by step along both, and either way round.
use Rattle.std.proofs.Common.{Some, cond, ◌≡◌, Bool, true, false, ◌&&◌, ◌||◌, List, [], ◌∷◌, refl, sym, ap, subst, ◌∙◌, IsTrue, length, arith}
use mathlib.Core.Bool.{true≢false}
use Rattle.std.specs.declared.cmp.Ordering.TheVariants.{Less, Equal, Greater}
use Rattle.std.specs.Ordering.{is_eq, ordering_reverse}
use Rattle.std.specs.Cmp.{tied_back, first_so, second_so}
use Rattle.std.specs.List.{list_any}
use Rattle.std.specs.FinMap.Entries.{below_all}
use Rattle.acc_value.specs.declared.key.Key.{Key}
use Rattle.acc_value.specs.Key.{key_cmp, key_eq}
use Rattle.acc_value.specs.Pairs.{IsRising, find}
use Rattle.acc_value.specs.Footprint.{clashes}
use Rattle.acc_value.proofs.KeyOrder.{key_cmp_total, key_eq-symm, key_eq-refl, key_eq-true}
use Rattle.acc_value.proofs.Rising.{find-later, less, below_less, below_tied, reversed}

same_some : {X : Type 0} (x y : X) → Some x ≡ Some y → x ≡ y
same_some x y e = cc

left_true : (a b : Bool) → b ≡ false → (a || b) ≡ true → a ≡ true
left_true true b h k = refl
left_true false b h k = absurd (true≢false (sym k ∙ h))

or_true : (a b : Bool) → b ≡ true → (a || b) ≡ true
or_true true b h = refl
or_true false b h = h

Uses : Type 0
Uses = List (Key × Bool)

-- one use clashes with some of the others
abbrev pub clashes_with : Key × Bool → List (Key × Bool) → Bool
clashes_with p b = list_any (λ q. key_eq p.0 q.0 && (p.1 || q.1)) b

-- a key below all others clashes with none
pub clashes_with-below : (p : Key × Bool) (b : List (Key × Bool)) → IsTrue (below_all key_cmp p.0 b) → clashes_with p b ≡ false
clashes_with-below p [] below = refl
clashes_with-below p (q ∷ b) below =
    ap (λ r. (is_eq r && (p.1 || q.1)) || clashes_with p b) (less _ (first_so _ _ below)) ∙ clashes_with-below p b (second_so _ _ below)

-- the first of the left is below all of the right, and drops out
pub clashes-less : (x y : Key × Bool) (a b : List (Key × Bool)) → IsRising (y ∷ b) → key_cmp x.0 y.0 ≡ Less → clashes (x ∷ a) (y ∷ b) ≡ clashes a (y ∷ b)
clashes-less x y a b rises below =
    ap (λ t. t || clashes a (y ∷ b)) (clashes_with-below x (y ∷ b) (below_less x.0 y b below rises))

-- a use of a smaller key clashes with no rising ones
pub clashes-drop : (y : Key × Bool) (a b : List (Key × Bool)) → IsTrue (below_all key_cmp y.0 a) → clashes a (y ∷ b) ≡ clashes a b
clashes-drop y [] b below = refl
clashes-drop y (p ∷ a) b below =
    let apart : key_cmp p.0 y.0 ≡ Greater = reversed y.0 p.0 (less _ (first_so _ _ below)) in
    (λ i. ((is_eq (apart i) && (p.1 || y.1)) || clashes_with p b) || clashes a (y ∷ b))
    ∙ ap (λ t. clashes_with p b || t) (clashes-drop y a b (second_so _ _ below))

-- the first of the right is below all of the left, and drops out
pub clashes-greater : (x y : Key × Bool) (a b : List (Key × Bool)) → IsRising (x ∷ a) → key_cmp x.0 y.0 ≡ Greater → clashes (x ∷ a) (y ∷ b) ≡ clashes (x ∷ a) b
clashes-greater x y a b rises above =
    let below : key_cmp y.0 x.0 ≡ Less = key_cmp_total.antisymm y.0 x.0 ∙ ap ordering_reverse above in
    clashes-drop y (x ∷ a) b (below_less y.0 x a below rises)

-- the firsts have one key, which neither writes, and both drop out
pub clashes-equal : (x y : Key × Bool) (a b : List (Key × Bool)) → IsRising (x ∷ a) → IsRising (y ∷ b) → key_cmp x.0 y.0 ≡ Equal → x.1 ≡ false → y.1 ≡ false → clashes (x ∷ a) (y ∷ b) ≡ clashes a b
clashes-equal x y a b rises rises' tie reads reads' =
    let left : IsTrue (below_all key_cmp y.0 a) = below_tied x.0 y.0 a tie (first_so _ _ rises) in
    let right : IsTrue (below_all key_cmp x.0 b) = below_tied y.0 x.0 b (tied_back key_cmp_total x.0 y.0 tie) (first_so _ _ rises') in
    (λ i. ((is_eq (tie i) && (reads i || reads' i)) || clashes_with x b) || clashes a (y ∷ b))
    ∙ ap (λ t. t || clashes a (y ∷ b)) (clashes_with-below x b right)
    ∙ clashes-drop y a b left

pub clashes-nil : (a : List (Key × Bool)) → clashes a [] ≡ false
clashes-nil [] = refl
clashes-nil (p ∷ a) = clashes-nil a

-- two lists that rise, and whether they clash
abbrev pub Left : List (Key × Bool) → List (Key × Bool) → Bool → Type 0
Left l r answer = IsRising l × IsRising r × (clashes l r ≡ answer)

module _ {x y : Key × Bool} {a b l r : List (Key × Bool)} {answer : Bool} where
  pub left-less : l ≡ x ∷ a → r ≡ y ∷ b → Less ≡ key_cmp x.0 y.0 → Left l r answer → Left a r answer
  left-less is is' below left =
      let rises : IsRising (x ∷ a) = subst IsRising is left.0 in
      let rises' : IsRising (y ∷ b) = subst IsRising is' left.1 in
      (second_so _ _ rises, left.1, ap (clashes a) is' ∙ sym (clashes-less x y a b rises' (sym below)) ∙ sym (λ i. clashes (is i) (is' i)) ∙ left.2)

  pub left-greater : l ≡ x ∷ a → r ≡ y ∷ b → Greater ≡ key_cmp x.0 y.0 → Left l r answer → Left l b answer
  left-greater is is' above left =
      let rises : IsRising (x ∷ a) = subst IsRising is left.0 in
      let rises' : IsRising (y ∷ b) = subst IsRising is' left.1 in
      (left.0, second_so _ _ rises', ap (λ z. clashes z b) is ∙ sym (clashes-greater x y a b rises (sym above)) ∙ sym (λ i. clashes (is i) (is' i)) ∙ left.2)

  pub left-equal : l ≡ x ∷ a → r ≡ y ∷ b → Equal ≡ key_cmp x.0 y.0 → x.1 ≡ false → y.1 ≡ false → Left l r answer → Left a b answer
  left-equal is is' tie reads reads' left =
      let rises : IsRising (x ∷ a) = subst IsRising is left.0 in
      let rises' : IsRising (y ∷ b) = subst IsRising is' left.1 in
      (second_so _ _ rises, second_so _ _ rises', sym (clashes-equal x y a b rises rises' (sym tie) reads reads') ∙ sym (λ i. clashes (is i) (is' i)) ∙ left.2)

pub left-none : (l r : List (Key × Bool)) (answer : Bool) → length r ≡ 0 → Left l r answer → false ≡ answer
left-none l [] answer none left = sym (clashes-nil l) ∙ left.2
left-none l (y ∷ r) answer none left = absurd (omega arith)

-- a test that fails everywhere
any_false : {X : Type 0} (xs : List X) → list_any (λ _. false) xs ≡ false
any_false [] = refl
any_false (x ∷ xs) = any_false xs

or_swap : (a b c d : Bool) → ((a || b) || (c || d)) ≡ ((a || c) || (b || d))
or_swap true b c d = refl
or_swap false true true d = refl
or_swap false true false d = refl
or_swap false false c d = refl

any_or : {X : Type 0} (g h : X → Bool) (xs : List X) → (list_any g xs || list_any h xs) ≡ list_any (λ x. g x || h x) xs
any_or g h [] = refl
any_or g h (x ∷ xs) = or_swap (g x) (list_any g xs) (h x) (list_any h xs) ∙ ap (λ t. (g x || h x) || t) (any_or g h xs)

-- some of the one with some of the other, whichever is gone through first
any_swap : {X Y : Type 0} (f : X → Y → Bool) (xs : List X) (ys : List Y) → list_any (λ x. list_any (λ y. f x y) ys) xs ≡ list_any (λ y. list_any (λ x. f x y) xs) ys
any_swap f [] ys = sym (any_false ys)
any_swap f (x ∷ xs) ys =
    ap (λ t. list_any (λ y. f x y) ys || t) (any_swap f xs ys)
    ∙ any_or (λ y. f x y) (λ y. list_any (λ z. f z y) xs) ys

or_comm : (a b : Bool) → (a || b) ≡ (b || a)
or_comm true true = refl
or_comm true false = refl
or_comm false true = refl
or_comm false false = refl

-- it doesn't matter which footprint is named first
pub clashes-symm : (a b : List (Key × Bool)) → clashes a b ≡ clashes b a
clashes-symm a b =
    any_swap (λ p q. key_eq p.0 q.0 && (p.1 || q.1)) a b
    ∙ (λ i. list_any (λ q. list_any (λ p. key_eq-symm p.0 q.0 i && or_comm p.1 q.1 i) a) b)

-- uses of one key clash where one of them writes
clashes_with-at : (p : Key × Bool) (b : List (Key × Bool)) (y : Bool) → find b p.0 ≡ Some y → (p.1 || y) ≡ true → clashes_with p b ≡ true
clashes_with-at p [] y found writes = cc
clashes_with-at p (q ∷ b) y found writes =
    elim (key_eq p.0 q.0) as (λ same. cond same (Some q.1) (find b p.0) ≡ Some y → ((same && (p.1 || q.1)) || clashes_with p b) ≡ true) [
      | true ↦ λ is. ap (λ t. (p.1 || t) || clashes_with p b) (same_some _ _ is) ∙ ap (λ t. t || clashes_with p b) writes
      | false ↦ λ is. clashes_with-at p b y is writes
    ] found

-- a key that both have, and that one of them writes, makes them clash
pub clashes-at : (a b : List (Key × Bool)) (key : Key) (x y : Bool) → find a key ≡ Some x → find b key ≡ Some y → (x || y) ≡ true → clashes a b ≡ true
clashes-at [] b key x y found found' writes = cc
clashes-at (p ∷ a) b key x y found found' writes =
    elim (key_eq key p.0) as (λ same. key_eq key p.0 ≡ same → cond same (Some p.1) (find a key) ≡ Some x → clashes (p ∷ a) b ≡ true) [
      | true ↦ λ same is.
          let here = clashes_with-at p b y (ap (find b) (sym (key_eq-true key p.0 same)) ∙ found') (ap (λ t. t || y) (same_some _ _ is) ∙ writes) in
          ap (λ t. t || clashes a b) here
      | false ↦ λ same is. or_true (clashes_with p b) (clashes a b) (clashes-at a b key x y is found' writes)
    ] refl found

-- a key that two footprints share, and that one of them writes
pub record Shared (a b : List (Key × Bool)) : Type 0 where
  pub key : Key
  pub left : Bool
  pub right : Bool
  pub found_left : find a key ≡ Some left
  pub found_right : find b key ≡ Some right
  pub written : (left || right) ≡ true

shared_with : (p : Key × Bool) (b : List (Key × Bool)) → IsRising b → clashes_with p b ≡ true → (y : Bool) × (find b p.0 ≡ Some y) × ((p.1 || y) ≡ true)
shared_with p [] rises h = absurd (true≢false (sym h))
shared_with p (q ∷ b) rises h =
    elim (key_eq p.0 q.0) as (λ same. key_eq p.0 q.0 ≡ same → ((same && (p.1 || q.1)) || clashes_with p b) ≡ true → (y : Bool) × (cond same (Some q.1) (find b p.0) ≡ Some y) × ((p.1 || y) ≡ true)) [
      | true ↦ λ same is.
          let apart : clashes_with p b ≡ false = clashes_with-below p b (subst (λ k. IsTrue (below_all key_cmp k b)) (sym (key_eq-true p.0 q.0 same)) (first_so _ _ rises)) in
          (q.1, refl, left_true (p.1 || q.1) (clashes_with p b) apart is)
      | false ↦ λ same is. shared_with p b (second_so _ _ rises) is
    ] refl h

-- footprints that clash share a key which one of them writes
pub clashes-shared : (a b : List (Key × Bool)) → IsRising a → IsRising b → clashes a b ≡ true → Shared a b
clashes-shared [] b rises rises' h = absurd (true≢false (sym h))
clashes-shared (p ∷ a) b rises rises' h =
    elim (clashes_with p b) as (λ t. clashes_with p b ≡ t → (t || clashes a b) ≡ true → Shared (p ∷ a) b) [
      | true ↦ λ with is.
          let found = shared_with p b rises' with in
          record { key = p.0; left = p.1; right = found.0; found_left = ap (λ t. cond t (Some p.1) (find a p.0)) (key_eq-refl p.0); found_right = found.1; written = found.2 }
      | false ↦ λ with is.
          let rest = clashes-shared a b (second_so _ _ rises) rises' is in
          record { key = rest.key; left = rest.left; right = rest.right; found_left = find-later p a rest.key rest.left rises rest.found_left; found_right = rest.found_right; written = rest.written }
    ] refl h
