-- Lists of pairs that rise by key: what a search in them finds, and what they have once a pair is put.
use Rattle.std.proofs.Common.{◌≡◌, ℕ, suc, zero, ◌<◌, ◌≤◌, Bool, true, false, ◌&&◌, List, [], ◌∷◌, ◌++◌, length, get_or, Result, Ok, Err, refl, sym, ap, subst, ◌∙◌, arith, IsTrue, MatchResult, Some, None, cond, set, insert, T, filter, slice_get, ◌-◌}
use Rattle.std.specs.declared.cmp.Ordering.{Ordering}
use Rattle.std.specs.declared.cmp.Ordering.TheVariants.{Less, Equal, Greater}
use Rattle.std.specs.Ordering.{ordering_index, is_lt, is_eq, ordering_reverse}
use Rattle.std.specs.Cmp.{alike_right, tied_back, first_so, second_so}
use Rattle.std.specs.List.Sorted.{IsNonDecreasingBy, IsBinarySearchResult, IsSearchInRange}
use Rattle.std.specs.FinMap.Entries as entries
use Rattle.std.specs.FinMap.Entries.{below_all, by_order, is_sorted-put}
use Rattle.acc_value.specs.declared.key.Key.{Key}
use Rattle.acc_value.specs.Key.{key_cmp, key_eq, key_lt}
use Rattle.acc_value.specs.Pairs.{IsRising, find, put, HasKeyAt, LacksKeyAt}
use Rattle.acc_value.proofs.KeyOrder.{key_cmp_total, key_cmp-IsAntisymmetric, key_eq-true}

least : (n : ℕ) (r : Ordering) → r ≡ Less → ordering_index r ≤ n
least n r e = subst (λ x. ordering_index x ≤ n) (sym e) (omega arith)

greatest : (r : Ordering) → ordering_index r ≤ 2
greatest Less = omega arith
greatest Equal = omega arith
greatest Greater = omega arith

-- the answers to one key rise along with the keys
rank_rises : (a b q : Key) → key_cmp a b ≡ Less → ordering_index (key_cmp a q) ≤ ordering_index (key_cmp b q)
rank_rises a b q below =
    elim (key_cmp b q) as (λ r. key_cmp b q ≡ r → ordering_index (key_cmp a q) ≤ ordering_index r) [
      | Less ↦ λ e. least _ _ (key_cmp_total.trans a b q below e)
      | Equal ↦ λ e. least _ _ (sym (alike_right key_cmp_total b q a e) ∙ below)
      | Greater ↦ λ e. greatest (key_cmp a q)
    ] refl

pub less : (r : Ordering) → IsTrue (is_lt r) → r ≡ Less
less Less h = refl
less Equal h = cc
less Greater h = cc

pub both : (a b : Bool) → IsTrue a → IsTrue b → IsTrue (a && b)
both a b h k = λ i. h i && k i

pub to_T : (b : Bool) → IsTrue b → T b
to_T b h = subst T (sym h) tt

pub of_T : (b : Bool) → T b → IsTrue b
of_T true h = refl
of_T false h = absurd h

pub reversed : (a b : Key) → key_cmp a b ≡ Less → key_cmp b a ≡ Greater
reversed a b e = key_cmp_total.antisymm b a ∙ ap ordering_reverse e

not_missing : {X A : Type 0} {x : X} → None ≡ Some x → A
not_missing e = cc

module _ {V : Type 0} where
  -- a key below all of a list is below each of it
  below_each : (a : Key) (pairs : List (Key × V)) (j : ℕ) (d : Key × V) → IsTrue (below_all key_cmp a pairs) → j < length pairs → key_cmp a (get_or pairs j d).0 ≡ Less
  below_each a [] j d below within = absurd (omega arith)
  below_each a (p ∷ pairs) zero d below within = less _ (first_so _ _ below)
  below_each a (p ∷ pairs) (suc j) d below within = below_each a pairs j d (second_so _ _ below) (omega arith)

  below_trans : (a b : Key) (pairs : List (Key × V)) → key_cmp a b ≡ Less → IsTrue (below_all key_cmp b pairs) → IsTrue (below_all key_cmp a pairs)
  below_trans a b [] below rest = refl
  below_trans a b (p ∷ pairs) below rest =
      both (is_lt (key_cmp a p.0)) _ (ap is_lt (key_cmp_total.trans a b p.0 below (less _ (first_so _ _ rest)))) (below_trans a b pairs below (second_so _ _ rest))

  -- a key below the first of rising pairs is below them all
  pub below_less : (a : Key) (p : Key × V) (pairs : List (Key × V)) → key_cmp a p.0 ≡ Less → IsRising (p ∷ pairs) → IsTrue (below_all key_cmp a (p ∷ pairs))
  below_less a p pairs below rises =
      both (is_lt (key_cmp a p.0)) _ (ap is_lt below) (below_trans a p.0 pairs below (first_so _ _ rises))

  -- and so is one that ties with the key below them all
  pub below_tied : (a b : Key) (pairs : List (Key × V)) → key_cmp a b ≡ Equal → IsTrue (below_all key_cmp a pairs) → IsTrue (below_all key_cmp b pairs)
  below_tied a b [] tie rest = refl
  below_tied a b (p ∷ pairs) tie rest =
      both (is_lt (key_cmp b p.0)) _ (ap is_lt (sym (key_cmp_total.congr a b p.0 tie)) ∙ first_so _ _ rest) (below_tied a b pairs tie (second_so _ _ rest))

  ranks_rise : (pairs : List (Key × V)) (q : Key) → IsRising pairs → IsNonDecreasingBy (λ p. ordering_index (key_cmp p.0 q)) pairs
  ranks_rise [] q rises i j d order within = absurd (omega arith)
  ranks_rise (p ∷ pairs) q rises zero zero d order within = omega arith
  ranks_rise (p ∷ pairs) q rises zero (suc j) d order within =
      rank_rises p.0 (get_or pairs j d).0 q (below_each p.0 pairs j d (first_so _ _ rises) (omega arith))
  ranks_rise (p ∷ pairs) q rises (suc i) zero d order within = absurd (omega arith)
  ranks_rise (p ∷ pairs) q rises (suc i) (suc j) d order within =
      ranks_rise pairs q (second_so _ _ rises) i j d (omega arith) (omega arith)

  pub searched : (pairs : List (Key × V)) (q : Key) (r : Result ℕ ℕ) → IsRising pairs → IsSearchInRange r (length pairs) → IsBinarySearchResult (λ p. key_cmp p.0 q) pairs r → MatchResult r (HasKeyAt pairs q) (LacksKeyAt pairs q)
  searched pairs q (Ok i) rises range found = (range, found)
  searched pairs q (Err i) rises range found = (range, found (ranks_rise pairs q rises))

  -- what stands at the place of a key is found by it
  pub find-at : (pairs : List (Key × V)) (q : Key) (i : ℕ) (x : Key × V) → IsRising pairs → HasKeyAt pairs q i → x ≡ get_or pairs i x → find pairs q ≡ Some x.1
  find-at [] q i x rises at is = absurd (omega (arith, at.0))
  find-at (p ∷ pairs) q zero x rises at is =
      ap (λ r. cond (is_eq r) (Some p.1) (find pairs q)) (tied_back key_cmp_total p.0 q (at.1 x)) ∙ ap (λ (y : Key × V). Some y.1) (sym is)
  find-at (p ∷ pairs) q (suc i) x rises at is =
      let below = below_each p.0 pairs i x (first_so _ _ rises) (omega (arith, at.0)) in
      let after : key_cmp q p.0 ≡ Greater = reversed p.0 q (sym (alike_right key_cmp_total (get_or pairs i x).0 q p.0 (at.1 x)) ∙ below) in
      ap (λ r. cond (is_eq r) (Some p.1) (find pairs q)) after
      ∙ find-at pairs q i x (second_so _ _ rises) (omega (arith, at.0), λ d. at.1 d) is

  -- a pair that is put takes the place of the one of its key
  pub put-at : (pairs : List (Key × V)) (q : Key) (v : V) (i : ℕ) (x : Key × V) → IsRising pairs → HasKeyAt pairs q i → x ≡ get_or pairs i x → put pairs q v ≡ set pairs i (x.0, v)
  put-at [] q v i x rises at is = absurd (omega (arith, at.0))
  put-at (p ∷ pairs) q v zero x rises at is =
      ap (λ r. by_order r ((q, v) ∷ p ∷ pairs) ((p.0, v) ∷ pairs) (p ∷ put pairs q v)) (tied_back key_cmp_total p.0 q (at.1 x))
      ∙ ap (λ (y : Key × V). (y.0, v) ∷ pairs) (sym is)
  put-at (p ∷ pairs) q v (suc i) x rises at is =
      let below = below_each p.0 pairs i x (first_so _ _ rises) (omega (arith, at.0)) in
      let after : key_cmp q p.0 ≡ Greater = reversed p.0 q (sym (alike_right key_cmp_total (get_or pairs i x).0 q p.0 (at.1 x)) ∙ below) in
      ap (λ r. by_order r ((q, v) ∷ p ∷ pairs) ((p.0, v) ∷ pairs) (p ∷ put pairs q v)) after
      ∙ ap (λ ps. p ∷ ps) (put-at pairs q v i x (second_so _ _ rises) (omega (arith, at.0), λ d. at.1 d) is)

  -- a pair of the very key may be written in the place of the one of its key
  pub put-over : (pairs : List (Key × V)) (q : Key) (v : V) (i : ℕ) → IsRising pairs → HasKeyAt pairs q i → put pairs q v ≡ set pairs i (q, v)
  put-over [] q v i rises at = absurd (omega (arith, at.0))
  put-over (p ∷ pairs) q v zero rises at =
      ap (λ r. by_order r ((q, v) ∷ p ∷ pairs) ((p.0, v) ∷ pairs) (p ∷ put pairs q v)) (tied_back key_cmp_total p.0 q (at.1 p))
      ∙ ap (λ key. (key, v) ∷ pairs) (key_cmp-IsAntisymmetric p.0 q (at.1 p))
  put-over (p ∷ pairs) q v (suc i) rises at =
      let below = below_each p.0 pairs i p (first_so _ _ rises) (omega (arith, at.0)) in
      let after : key_cmp q p.0 ≡ Greater = reversed p.0 q (sym (alike_right key_cmp_total (get_or pairs i p).0 q p.0 (at.1 p)) ∙ below) in
      ap (λ r. by_order r ((q, v) ∷ p ∷ pairs) ((p.0, v) ∷ pairs) (p ∷ put pairs q v)) after
      ∙ ap (λ ps. p ∷ ps) (put-over pairs q v i (second_so _ _ rises) (omega (arith, at.0), λ d. at.1 d))

  -- the same of the list behind the first pair
  lacks_rest : (p : Key × V) (pairs : List (Key × V)) (q : Key) (i : ℕ) → LacksKeyAt (p ∷ pairs) q (suc i) → LacksKeyAt pairs q i
  lacks_rest p pairs q i lacks =
      (omega (arith, lacks.0), (λ k d low high. lacks.1.0 (suc k) d (omega arith) (omega arith), λ k d low high. lacks.1.1 (suc k) d (omega arith) (omega arith)))

  lacks_first : (p : Key × V) (pairs : List (Key × V)) (q : Key) → LacksKeyAt (p ∷ pairs) q 0 → LacksKeyAt pairs q 0
  lacks_first p pairs q lacks =
      (omega arith, (λ k d low high. absurd (omega arith), λ k d low high. lacks.1.1 (suc k) d (omega arith) (omega arith)))

  -- the first pair is greater where the key would stand at its place, and else smaller
  before : (p : Key × V) (pairs : List (Key × V)) (q : Key) → LacksKeyAt (p ∷ pairs) q 0 → key_cmp q p.0 ≡ Less
  before p pairs q lacks = key_cmp_total.antisymm q p.0 ∙ ap ordering_reverse (lacks.1.1 0 p (omega arith) (omega arith))

  behind : (p : Key × V) (pairs : List (Key × V)) (q : Key) (i : ℕ) → LacksKeyAt (p ∷ pairs) q (suc i) → key_cmp q p.0 ≡ Greater
  behind p pairs q i lacks = reversed p.0 q (lacks.1.0 0 p (omega arith) (omega arith))

  -- a key that stands nowhere is not found
  pub find-lacks : (pairs : List (Key × V)) (q : Key) (i : ℕ) → LacksKeyAt pairs q i → find pairs q ≡ None
  find-lacks [] q i lacks = refl
  find-lacks (p ∷ pairs) q zero lacks =
      ap (λ r. cond (is_eq r) (Some p.1) (find pairs q)) (before p pairs q lacks) ∙ find-lacks pairs q 0 (lacks_first p pairs q lacks)
  find-lacks (p ∷ pairs) q (suc i) lacks =
      ap (λ r. cond (is_eq r) (Some p.1) (find pairs q)) (behind p pairs q i lacks) ∙ find-lacks pairs q i (lacks_rest p pairs q i lacks)

  -- and its pair is put where it would stand
  pub put-lacks : (pairs : List (Key × V)) (q : Key) (v : V) (i : ℕ) → LacksKeyAt pairs q i → put pairs q v ≡ insert pairs i (q, v)
  put-lacks [] q v zero lacks = refl
  put-lacks [] q v (suc i) lacks = absurd (omega (arith, lacks.0))
  put-lacks (p ∷ pairs) q v zero lacks =
      ap (λ r. by_order r ((q, v) ∷ p ∷ pairs) ((p.0, v) ∷ pairs) (p ∷ put pairs q v)) (before p pairs q lacks)
  put-lacks (p ∷ pairs) q v (suc i) lacks =
      ap (λ r. by_order r ((q, v) ∷ p ∷ pairs) ((p.0, v) ∷ pairs) (p ∷ put pairs q v)) (behind p pairs q i lacks)
      ∙ ap (λ ps. p ∷ ps) (put-lacks pairs q v i (lacks_rest p pairs q i lacks))

  pub IsRising-put : (pairs : List (Key × V)) (k : Key) (v : V) → IsRising pairs → IsRising (put pairs k v)
  IsRising-put pairs k v rises = of_T _ (is_sorted-put key_cmp key_cmp_total k v pairs (to_T _ rises))

  -- a key below all others is not among them
  pub find-below : (pairs : List (Key × V)) (q : Key) → IsTrue (below_all key_cmp q pairs) → find pairs q ≡ None
  find-below [] q below = refl
  find-below (p ∷ pairs) q below =
      ap (λ r. cond (is_eq r) (Some p.1) (find pairs q)) (less _ (first_so _ _ below)) ∙ find-below pairs q (second_so _ _ below)

  -- what is found once a pair is put
  pub find-put : (pairs : List (Key × V)) (k : Key) (v : V) (q : Key) → find (put pairs k v) q ≡ cond (key_eq q k) (Some v) (find pairs q)
  find-put pairs k v q = entries.find-put key_cmp key_cmp_total q k v pairs

  -- rising pairs are what is found in them
  pub same_pairs : (a b : List (Key × V)) → IsRising a → IsRising b → ((q : Key) → find a q ≡ find b q) → a ≡ b
  same_pairs a b rises rises' same = entries.same_entries key_cmp key_cmp_total key_cmp-IsAntisymmetric a b (to_T _ rises) (to_T _ rises') same

  -- the pairs whose keys pass a test rise, and are found where they pass
  pub IsRising-filter : (p : Key → Bool) (pairs : List (Key × V)) → IsRising pairs → IsRising (filter (λ e. p e.0) pairs)
  IsRising-filter p pairs rises = of_T _ (entries.is_sorted-where_key key_cmp p pairs (to_T _ rises))

  pub find-filter : (p : Key → Bool) (pairs : List (Key × V)) (q : Key) → find (filter (λ e. p e.0) pairs) q ≡ cond (p q) (find pairs q) None
  find-filter p pairs q = entries.find-where_key key_cmp p q (λ x tie. ap p (sym (key_cmp-IsAntisymmetric q x tie))) pairs

  -- the last of a list is the last behind its first
  last_of : (a b : Key × V) (pairs : List (Key × V)) → slice_get (a ∷ b ∷ pairs) (length (a ∷ b ∷ pairs) - 1) ≡ slice_get (b ∷ pairs) (length (b ∷ pairs) - 1)
  last_of a b pairs =
      let place : length (a ∷ b ∷ pairs) - 1 ≡ suc (length (b ∷ pairs) - 1) = omega arith in
      ap (slice_get (a ∷ b ∷ pairs)) place

  -- a pair whose key is greater than the last one may stand at the end
  pub IsRising-push : (pairs : List (Key × V)) (p : Key × V) → IsRising pairs → ((last : Key × V) → slice_get pairs (length pairs - 1) ≡ Some last → key_lt last.0 p.0 ≡ true) → IsRising (pairs ++ p ∷ [])
  IsRising-push [] p rises above = refl
  IsRising-push (a ∷ []) p rises above = both _ true (both (is_lt (key_cmp a.0 p.0)) true (above a refl) refl) refl
  IsRising-push (a ∷ b ∷ pairs) p rises above =
      let rest = IsRising-push (b ∷ pairs) p (second_so _ _ rises) (λ last is. above last (last_of a b pairs ∙ is)) in
      both _ _ (below_less a.0 b (pairs ++ p ∷ []) (less _ (first_so _ _ (first_so _ _ rises))) rest) rest

  -- what is found behind the first pair is found in them all
  pub find-later : (p : Key × V) (pairs : List (Key × V)) (q : Key) (v : V) → IsRising (p ∷ pairs) → find pairs q ≡ Some v → find (p ∷ pairs) q ≡ Some v
  find-later p pairs q v rises found =
      elim (key_eq q p.0) as (λ same. key_eq q p.0 ≡ same → cond same (Some p.1) (find pairs q) ≡ Some v) [
        | true ↦ λ same. not_missing (sym (find-below pairs p.0 (first_so _ _ rises)) ∙ ap (find pairs) (sym (key_eq-true q p.0 same)) ∙ found)
        | false ↦ λ same. found
      ] refl
