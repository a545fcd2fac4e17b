-- The part of a footprint that lies in a shard rises as the footprint does.
use Rattle.std.proofs.Common.{◌≡◌, ℕ, ◌+◌, ◌<◌, Bool, true, false, cond, List, [], ◌∷◌, ◌++◌, length, take, drop, get_or, filter, refl, sym, ap, subst, ◌∙◌, IsTrue}
use Rattle.std.specs.FinMap.{is_sorted}
use Rattle.std.specs.FinMap.Entries.{below_all, where_key, is_sorted-where_key}
use Rattle.std.proofs.lemmas.Bool.{and_parts, and_from}
use Rattle.std.proofs.lemmas.List.{take_more, take-append-drop}
use Rattle.acc_value.specs.declared.key.Key.{Key}
use Rattle.acc_value.specs.Key.{key_cmp}
use Rattle.acc_value.specs.Pairs.{IsRising}
use Rattle.acc_value.proofs.Rising.{to_T, of_T}

module _ {V : Type 0} where
  below_front : (k : Key) (xs ys : List (Key × V)) → IsTrue (below_all key_cmp k (xs ++ ys)) → IsTrue (below_all key_cmp k xs)
  below_front k [] ys h = refl
  below_front k (x ∷ xs) ys h =
      let both = and_parts _ (below_all key_cmp k (xs ++ ys)) h in and_from _ _ both.0 (below_front k xs ys both.1)

  -- a front of rising pairs rises
  IsRising-front : (xs ys : List (Key × V)) → IsRising (xs ++ ys) → IsRising xs
  IsRising-front [] ys h = refl
  IsRising-front (x ∷ xs) ys h =
      let both = and_parts _ (is_sorted key_cmp (xs ++ ys)) h in and_from _ _ (below_front x.0 xs ys both.0) (IsRising-front xs ys both.1)

  filter-key : (p : Key → Bool) (xs : List (Key × V)) → where_key key_cmp p xs ≡ filter (λ x. p x.0) xs
  filter-key p [] = refl
  filter-key p (x ∷ xs) = ap (λ (l : List (Key × V)). cond (p x.0) (x ∷ l) l) (filter-key p xs)

  IsRising-filter : (p : Key → Bool) (xs : List (Key × V)) → IsRising xs → IsRising (filter (λ x. p x.0) xs)
  IsRising-filter p xs h = subst IsRising (filter-key p xs) (of_T _ (is_sorted-where_key key_cmp p xs (to_T _ h)))

  filter-append : (p : Key × V → Bool) (xs ys : List (Key × V)) → filter p (xs ++ ys) ≡ filter p xs ++ filter p ys
  filter-append p [] ys = refl
  filter-append p (x ∷ xs) ys = by (p x) (filter-append p xs ys) where
    by : (b : Bool) → filter p (xs ++ ys) ≡ filter p xs ++ filter p ys → cond b (x ∷ filter p (xs ++ ys)) (filter p (xs ++ ys)) ≡ cond b (x ∷ filter p xs) (filter p xs) ++ filter p ys
    by true e = ap (λ (l : List (Key × V)). x ∷ l) e
    by false e = e

  -- the share so far, with the next pair that lies in it
  pub share-rises : (p : Key → Bool) (pairs share : List (Key × V)) (i : ℕ) (x : Key × V) → IsRising pairs → i < length pairs → x ≡ get_or pairs i x → p x.0 ≡ true → share ≡ filter (λ y. p y.0) (take i pairs) → IsRising (share ++ x ∷ [])
  share-rises p pairs share i x rises lt at passes so_far =
      let q : Key × V → Bool = λ y. p y.0 in
      let one : filter q (x ∷ []) ≡ x ∷ [] = ap (λ b. cond b (x ∷ []) []) passes in
      let front : filter q (take (i + 1) pairs) ≡ share ++ x ∷ [] =
      ap (filter q) (take_more pairs i x lt ∙ ap (λ (y : Key × V). take i pairs ++ y ∷ []) (sym at)) ∙ filter-append q (take i pairs) (x ∷ []) ∙ ap (λ (l : List (Key × V)). filter q (take i pairs) ++ l) one ∙ ap (λ (l : List (Key × V)). l ++ x ∷ []) (sym so_far) in
      let whole : filter q (take (i + 1) pairs) ++ filter q (drop (i + 1) pairs) ≡ filter q pairs = sym (filter-append q (take (i + 1) pairs) (drop (i + 1) pairs)) ∙ ap (filter q) (take-append-drop (i + 1) pairs) in
      subst IsRising front (IsRising-front (filter q (take (i + 1) pairs)) (filter q (drop (i + 1) pairs)) (subst IsRising (sym whole) (IsRising-filter p pairs rises)))
