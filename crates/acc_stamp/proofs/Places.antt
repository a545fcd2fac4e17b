-- Rising lists by their places, and what a binary search in one answers.
use Rattle.std.proofs.Common.{◌≡◌, ℕ, ◌+◌, ◌<◌, ◌≤◌, Bool, true, false, ◌||◌, List, [], ◌∷◌, length, get_or, take, drop, insert, suc, zero, Result, Ok, Err, is_ok, Ordering, sym, refl, ap, ◌∙◌, subst, arith}
use Rattle.std.specs.Bool.{Decides}
use Rattle.std.specs.Cmp.{IsTotalOrder}
use Rattle.std.specs.declared.cmp.Ordering.TheVariants.{Less, Equal, Greater}
use Rattle.std.specs.List.{AllByRecursion, AllWithin, Contains}
use Rattle.std.specs.List.Sorted.{IsBinarySearchResult, IsSearchInRange, IsNonDecreasingBy}
use Rattle.std.specs.Ordering.{is_lt, ordering_index, ordering_reverse}
use Rattle.std.specs.Result.{MatchResult}
use Rattle.std.proofs.lemmas.Bool.{true≢false, or_left, or_right, or_from}
use Rattle.std.proofs.lemmas.List.Elements.{All-from_recursion}
use Rattle.std.proofs.lemmas.List.Sorted.{searchable_from_sorted}
use Rattle.acc_stamp.specs.Order.{IsStrictTotalOrder}
use Rattle.acc_stamp.specs.Rising.{IsRisingBy, is_among, rising_with, IsPlaceOf, IsGapFor}
use Rattle.std.proofs.lemmas.List.{take-append-drop, take_all, drop_all}
use Rattle.acc_stamp.proofs.Order.{eq_itself}
use Rattle.acc_stamp.proofs.Rising.{is_among-append, is_among-above, is_among-below, rising_with-between, rising_with-present}

-- ---- each element, by its place

pub rising_at : {K : Type 0} (lt : K → K → Bool) (xs : List K) (i j : ℕ) (d : K) → IsRisingBy lt xs → i < j → j < length xs → lt (get_or xs i d) (get_or xs j d) ≡ true
rising_at lt [] i j d h p q = absurd (omega arith)
rising_at lt (x ∷ xs) zero zero d h p q = absurd (omega arith)
rising_at lt (x ∷ xs) zero (suc j) d h p q = All-from_recursion (λ y. lt x y ≡ true) xs h.0 j d (omega arith)
rising_at lt (x ∷ xs) (suc i) zero d h p q = absurd (omega arith)
rising_at lt (x ∷ xs) (suc i) (suc j) d h p q = rising_at lt xs i j d h.1 (omega arith) (omega arith)

pub each_of_front : {X : Type 0} (P : X → Type 0) (i : ℕ) (xs : List X) → i ≤ length xs → AllWithin P xs 0 i → AllByRecursion P (take i xs)
each_of_front P zero xs h f = tt
each_of_front P (suc i) [] h f = tt
each_of_front P (suc i) (x ∷ xs) h f = (f 0 x (omega arith) (omega arith), each_of_front P i xs (omega arith) (λ k d p q. f (suc k) d (omega arith) (omega arith)))

pub each_of_back : {X : Type 0} (P : X → Type 0) (i : ℕ) (xs : List X) → AllWithin P xs i (length xs) → AllByRecursion P (drop i xs)
each_of_back P zero [] f = tt
each_of_back P zero (x ∷ xs) f = (f 0 x (omega arith) (omega arith), each_of_back P zero xs (λ k d p q. f (suc k) d (omega arith) (omega arith)))
each_of_back P (suc i) [] f = tt
each_of_back P (suc i) (x ∷ xs) f = each_of_back P i xs (λ k d p q. f (suc k) d (omega arith) (omega arith))

-- ---- a binary search by a key

module _ {X K : Type 0} {R : K → K → Ordering} {lt : K → K → Bool} (total : IsTotalOrder R) (exact : (a b : K) → R a b ≡ Equal → a ≡ b) (same : (a b : K) → is_lt (R a b) ≡ lt a b) (key : X → K) where
  asym_keys : (a b : K) → lt a b ≡ true → lt b a ≡ false
  asym_keys a b h = sym (same b a) ∙ ap is_lt (total.antisymm b a) ∙ turned (R a b) (same a b ∙ h)
    where
      turned : (r : Ordering) → is_lt r ≡ true → is_lt (ordering_reverse r) ≡ false
      turned Less e = refl
      turned Equal e = refl
      turned Greater e = absurd (true≢false (sym e))

  searchable : (xs : List X) (x : K) → IsRisingBy (λ a b. lt (key a) (key b)) xs → IsNonDecreasingBy (λ y. ordering_index (R (key y) x)) xs
  searchable xs x h = searchable_from_sorted total key xs x (λ k d p q. same (key (get_or xs (k + 1) d)) (key (get_or xs k d)) ∙ asym_keys _ _ (rising_at (λ a b. lt (key a) (key b)) xs k (k + 1) d h (omega arith) q))

  greater : (a x : K) → R a x ≡ Greater → lt x a ≡ true
  greater a x e = sym (same x a) ∙ ap is_lt (total.antisymm x a ∙ ap ordering_reverse e)

  pub searched : (xs : List X) (x : K) (r : Result ℕ ℕ) → IsRisingBy (λ a b. lt (key a) (key b)) xs → IsSearchInRange r (length xs) → IsBinarySearchResult (λ y. R (key y) x) xs r → MatchResult r (IsPlaceOf key xs x) (IsGapFor lt key xs x)
  searched xs x (Ok i) h p q = record { in_range = p; at = λ d. exact _ _ (q d) }
  searched xs x (Err i) h p q =
      let parts = q (searchable xs x h) in
      record {
        in_range = p;
        below = each_of_front (λ y. lt (key y) x ≡ true) i xs p (λ k d a b. sym (same _ x) ∙ ap is_lt (parts.0 k d a b));
        above = each_of_back (λ y. lt x (key y) ≡ true) i xs (λ k d a b. greater _ x (parts.1 k d a b));
      }

-- ---- elements and places

module _ {K : Type 0} {lt eq : K → K → Bool} (o : IsStrictTotalOrder lt eq) where
  pub is_among-at : (xs : List K) (i : ℕ) (d : K) → i < length xs → is_among eq (get_or xs i d) xs ≡ true
  is_among-at [] i d h = absurd (omega arith)
  is_among-at (x ∷ xs) zero d h = or_left (eq x x) _ (eq_itself o x)
  is_among-at (x ∷ xs) (suc i) d h = or_right (eq x (get_or xs i d)) _ (is_among-at xs i d (omega arith))

  pub Contains-from_among : (xs : List K) (x : K) → is_among eq x xs ≡ true → Contains xs x
  Contains-from_among [] x h = absurd (true≢false (sym h))
  Contains-from_among (y ∷ ys) x h = at_cases (Contains-from_among ys x) (eq y x) refl
    where
      at_cases : (is_among eq x ys ≡ true → Contains ys x) → (b : Bool) → eq y x ≡ b → Contains (y ∷ ys) x
      at_cases rest true e = (0, omega arith, (o.decides y x).0 e)
      at_cases rest false e = let c = rest (sym (ap (λ b. b || is_among eq x ys) e) ∙ h) in (suc c.0, omega (arith, c.1), c.2)

  pub is_among-Decides : (xs : List K) (x : K) → Decides (is_among eq x xs) (Contains xs x)
  is_among-Decides xs x = (Contains-from_among xs x, λ c. subst (λ z. is_among eq z xs ≡ true) c.2 (is_among-at xs c.0 x c.1))

  -- what a binary search for x itself says
  pub is_among-place : (xs : List K) (x : K) (i : ℕ) → IsPlaceOf (λ y. y) xs x i → is_among eq x xs ≡ true
  is_among-place xs x i p = subst (λ z. is_among eq z xs ≡ true) (p.at x) (is_among-at xs i x p.in_range)

  pub is_among-gap : (xs : List K) (x : K) (i : ℕ) → IsGapFor lt (λ y. y) xs x i → is_among eq x xs ≡ false
  is_among-gap xs x i g =
      ap (is_among eq x) (sym (take-append-drop i xs)) ∙ is_among-append eq x (take i xs) (drop i xs)
      ∙ or_from (is_among eq x (take i xs)) _ (is_among-above o x (take i xs) g.below) (is_among-below o x (drop i xs) g.above)

  pub insert-gap : (xs : List K) (x : K) (i : ℕ) → IsGapFor lt (λ y. y) xs x i → insert xs i x ≡ rising_with lt x xs
  insert-gap xs x i g = sym (ap (rising_with lt x) (sym (take-append-drop i xs)) ∙ rising_with-between o x (take i xs) (drop i xs) g.below g.above)

  -- whether the search found it is whether it is there
  pub is_ok-searched : (xs : List K) (x : K) (r : Result ℕ ℕ) → MatchResult r (IsPlaceOf (λ y. y) xs x) (IsGapFor lt (λ y. y) xs x) → is_ok r ≡ is_among eq x xs
  is_ok-searched xs x (Ok i) p = sym (is_among-place xs x i p)
  is_ok-searched xs x (Err i) g = sym (is_among-gap xs x i g)

  -- all are below what the last is below
  pub below_from_last : (xs : List K) (i : ℕ) (d x : K) → IsRisingBy lt xs → i + 1 ≡ length xs → lt (get_or xs i d) x ≡ true → AllByRecursion (λ y. lt y x ≡ true) xs
  below_from_last [] i d x r e h = tt
  below_from_last (y ∷ []) zero d x r e h = (h, tt)
  below_from_last (y ∷ []) (suc i) d x r e h = absurd (omega arith)
  below_from_last (y ∷ z ∷ zs) zero d x r e h = absurd (omega arith)
  below_from_last (y ∷ z ∷ zs) (suc i) d x r e h =
      let rest = below_from_last (z ∷ zs) i d x r.1 (omega arith) h in
      (o.trans y z x r.0.0 rest.0, rest)

  -- what is above the last of them would go behind it
  pub IsGapFor-behind : (xs : List K) (i : ℕ) (d x : K) → IsRisingBy lt xs → i + 1 ≡ length xs → lt (get_or xs i d) x ≡ true → IsGapFor lt (λ y. y) xs x (length xs)
  IsGapFor-behind xs i d x r e h = record {
    in_range = omega arith;
    below = subst (AllByRecursion (λ y. lt y x ≡ true)) (sym (take_all (length xs) xs (omega arith))) (below_from_last xs i d x r e h);
    above = subst (AllByRecursion (λ y. lt x y ≡ true)) (sym (drop_all (length xs) xs (omega arith))) tt;
  }

  -- an element that is found changes nothing where it is put in
  pub rising_with-place : (xs : List K) (x : K) (i : ℕ) → IsRisingBy lt xs → IsPlaceOf (λ y. y) xs x i → rising_with lt x xs ≡ xs
  rising_with-place xs x i r p = rising_with-present o x xs r (is_among-place xs x i p)
