-- Pairs that rise by key, with one more after them.
use Rattle.std.proofs.Common.{◌≡◌, suc, ◌-◌, Bool, true, false, ◌&&◌, List, [], ◌∷◌, ◌++◌, length, Some, refl, sym, ap, ◌∙◌, IsTrue, slice_get, arith}
use Rattle.std.specs.Cmp.{first_so, second_so}
use Rattle.std.specs.List.{list_all}
use Rattle.std.specs.FinMap.Entries.{below_all}
use Rattle.acc_value.specs.declared.key.Key.{Key}
use Rattle.acc_value.specs.Key.{key_cmp, key_lt}
use Rattle.acc_value.specs.Pairs.{IsRising}
use Rattle.acc_value.proofs.KeyOrder.{key_lt-trans}
use Rattle.acc_value.proofs.Rising.{both}

only_true : (a : Bool) → (a && true) ≡ a
only_true true = refl
only_true false = refl

and_true : (a b : Bool) → (b ≡ true → a ≡ true) → (a && b) ≡ b
and_true a true h = ap (λ x. x && true) (h refl)
and_true true false h = refl
and_true false false h = refl

module _ {V : Type 0} where
  below_last : (a : Key) (p : Key × V) (pairs : List (Key × V)) (last : Key × V) → IsTrue (below_all key_cmp a (p ∷ pairs)) → slice_get (p ∷ pairs) (length pairs) ≡ Some last → key_lt a last.0 ≡ true
  below_last a p [] last below e =
      let same : p ≡ last = cc in
      ap (λ (q : Key × V). key_lt a q.0) (sym same) ∙ first_so (key_lt a p.0) true below
  below_last a p (q ∷ pairs) last below e = below_last a q pairs last (second_so (key_lt a p.0) _ below) e

  -- a key is after them all where it is after the last
  pub behind_last : (p : Key × V) (pairs : List (Key × V)) (last : Key × V) (key : Key) → IsRising (p ∷ pairs) → slice_get (p ∷ pairs) (length pairs) ≡ Some last → list_all (λ q. key_lt q.0 key) (p ∷ pairs) ≡ key_lt last.0 key
  behind_last p [] last key rises e =
      let same : p ≡ last = cc in
      only_true (key_lt p.0 key) ∙ ap (λ (q : Key × V). key_lt q.0 key) same
  behind_last p (q ∷ pairs) last key rises e =
      let later = behind_last q pairs last key (second_so _ _ rises) e in
      and_true (key_lt p.0 key) (list_all (λ r. key_lt r.0 key) (q ∷ pairs)) (λ h. key_lt-trans p.0 last.0 key (below_last p.0 q pairs last (first_so _ _ rises) e) (sym later ∙ h)) ∙ later

  pub behind : (pairs : List (Key × V)) (last : Key × V) (key : Key) → IsRising pairs → Some last ≡ slice_get pairs (length pairs - 1) → list_all (λ q. key_lt q.0 key) pairs ≡ key_lt last.0 key
  behind [] last key rises e = absurd cc
  behind (p ∷ pairs) last key rises e =
      let k : suc (length pairs) - 1 ≡ length pairs = omega arith in
      behind_last p pairs last key rises (ap (slice_get (p ∷ pairs)) (sym k) ∙ sym e)

  below_snoc : (a : Key) (front : List (Key × V)) (x : Key × V) → IsTrue (below_all key_cmp a front) → IsTrue (key_lt a x.0) → IsTrue (below_all key_cmp a (front ++ x ∷ []))
  below_snoc a [] x below h = both (key_lt a x.0) true h refl
  below_snoc a (p ∷ front) x below h = both (key_lt a p.0) _ (first_so (key_lt a p.0) _ below) (below_snoc a front x (second_so (key_lt a p.0) _ below) h)

  -- and then they rise with it
  pub rising_snoc : (front : List (Key × V)) (x : Key × V) → IsRising front → IsTrue (list_all (λ q. key_lt q.0 x.0) front) → IsRising (front ++ x ∷ [])
  rising_snoc [] x rises h = refl
  rising_snoc (p ∷ front) x rises h =
      both (below_all key_cmp p.0 (front ++ x ∷ [])) _
      (below_snoc p.0 front x (first_so _ _ rises) (first_so (key_lt p.0 x.0) _ h))
      (rising_snoc front x (second_so _ _ rises) (second_so (key_lt p.0 x.0) _ h))

  below_front : (a : Key) (front back : List (Key × V)) → IsTrue (below_all key_cmp a (front ++ back)) → IsTrue (below_all key_cmp a front)
  below_front a [] back h = refl
  below_front a (p ∷ front) back h = both (key_lt a p.0) _ (first_so (key_lt a p.0) _ h) (below_front a front back (second_so (key_lt a p.0) _ h))

  -- a front of rising pairs rises
  pub rising_front : (front back : List (Key × V)) → IsRising (front ++ back) → IsRising front
  rising_front [] back h = refl
  rising_front (p ∷ front) back h =
      both (below_all key_cmp p.0 front) _ (below_front p.0 front back (first_so (below_all key_cmp p.0 (front ++ back)) _ h)) (rising_front front back (second_so (below_all key_cmp p.0 (front ++ back)) _ h))

  below_at : (a : Key) (front : List (Key × V)) (x : Key × V) → IsTrue (below_all key_cmp a (front ++ x ∷ [])) → IsTrue (key_lt a x.0)
  below_at a [] x h = first_so (key_lt a x.0) true h
  below_at a (p ∷ front) x h = below_at a front x (second_so (key_lt a p.0) _ h)

  -- and its pairs are before what follows
  pub rising_last : (front : List (Key × V)) (x : Key × V) → IsRising (front ++ x ∷ []) → IsTrue (list_all (λ q. key_lt q.0 x.0) front)
  rising_last [] x h = refl
  rising_last (p ∷ front) x h =
      both (key_lt p.0 x.0) _ (below_at p.0 front x (first_so (below_all key_cmp p.0 (front ++ x ∷ [])) _ h)) (rising_last front x (second_so (below_all key_cmp p.0 (front ++ x ∷ [])) _ h))
