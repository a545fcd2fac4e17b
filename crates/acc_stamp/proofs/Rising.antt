-- Lists that rise by a strict total order.
use Rattle.std.proofs.Common.{◌≡◌, ℕ, take, drop, Bool, true, false, ◌&&◌, ◌||◌, List, [], ◌∷◌, ◌++◌, filter, sym, refl, ap, append-nil, ◌∙◌, subst, ⊎_elim}
use Rattle.std.specs.Bool.{Decides}
use Rattle.std.specs.List.{AllByRecursion}
use Rattle.std.proofs.lemmas.Bool.{true≢false, cond_both, or_from, or_left, or_right, and_parts, and_from, and_left, cond-true, cond-false}
use Rattle.std.proofs.lemmas.List.{take-append-drop}
use Rattle.acc_stamp.specs.Order.{IsStrictTotalOrder}
use Rattle.acc_stamp.specs.Rising.{IsRisingBy, is_before, is_rising_by, is_among, rising_with, rising_union}
use Rattle.acc_stamp.proofs.Order.{asym, eq_itself, apart, apart_back, trichotomy}

-- ---- what holds of each element

pub each_append : {K : Type 0} (P : K → Type 0) (xs ys : List K) → AllByRecursion P xs → AllByRecursion P ys → AllByRecursion P (xs ++ ys)
each_append P [] ys h k = k
each_append P (x ∷ xs) ys h k = (h.0, each_append P xs ys h.1 k)

pub each_parts : {K : Type 0} (P : K → Type 0) (xs ys : List K) → AllByRecursion P (xs ++ ys) → AllByRecursion P xs × AllByRecursion P ys
each_parts P [] ys h = (tt, h)
each_parts P (x ∷ xs) ys h = let t = each_parts P xs ys h.1 in ((h.0, t.0), t.1)

pub each_weaker : {K : Type 0} (P Q : K → Type 0) (xs : List K) → ((x : K) → P x → Q x) → AllByRecursion P xs → AllByRecursion Q xs
each_weaker P Q [] f h = tt
each_weaker P Q (x ∷ xs) f h = (f x h.0, each_weaker P Q xs f h.1)

pub each_filter : {K : Type 0} (P : K → Type 0) (p : K → Bool) (xs : List K) → AllByRecursion P xs → AllByRecursion P (filter p xs)
each_filter P p [] h = tt
each_filter P p (x ∷ xs) h = cond_both (p x) (x ∷ filter p xs) (filter p xs) (AllByRecursion P) (λ _. (h.0, each_filter P p xs h.1)) (λ _. each_filter P p xs h.1)

or-swap : (a b c : Bool) → (a || (b || c)) ≡ (b || (a || c))
or-swap true true c = refl
or-swap true false c = refl
or-swap false true c = refl
or-swap false false c = refl

or-assoc : (a b c : Bool) → ((a || b) || c) ≡ (a || (b || c))
or-assoc true b c = refl
or-assoc false b c = refl

or-comm : (a b : Bool) → (a || b) ≡ (b || a)
or-comm true true = refl
or-comm true false = refl
or-comm false true = refl
or-comm false false = refl

or-itself : (a : Bool) → (a || a) ≡ a
or-itself true = refl
or-itself false = refl

or-twice : (a b : Bool) → (a || (a || b)) ≡ (a || b)
or-twice true b = refl
or-twice false b = refl

-- ---- elements

pub is_among-append : {K : Type 0} (eq : K → K → Bool) (x : K) (xs ys : List K) → is_among eq x (xs ++ ys) ≡ (is_among eq x xs || is_among eq x ys)
is_among-append eq x [] ys = refl
is_among-append eq x (y ∷ xs) ys = ap (λ b. eq y x || b) (is_among-append eq x xs ys) ∙ sym (or-assoc (eq y x) (is_among eq x xs) (is_among eq x ys))

module _ {K : Type 0} {lt eq : K → K → Bool} (o : IsStrictTotalOrder lt eq) where
  -- what holds of each element holds of one that is among them
  pub each_at : (P : K → Type 0) (x : K) (xs : List K) → AllByRecursion P xs → is_among eq x xs ≡ true → P x
  each_at P x [] h k = absurd (true≢false (sym k))
  each_at P x (y ∷ ys) h k = at_cases (each_at P x ys h.1) (eq y x) refl
    where
      at_cases : (is_among eq x ys ≡ true → P x) → (b : Bool) → eq y x ≡ b → P x
      at_cases rest true e = subst P ((o.decides y x).0 e) h.0
      at_cases rest false e = rest (sym (ap (λ b. b || is_among eq x ys) e) ∙ k)

  -- a fact of all that are among them
  pub each_from : (P : K → Type 0) (xs : List K) → ((x : K) → is_among eq x xs ≡ true → P x) → AllByRecursion P xs
  each_from P [] f = tt
  each_from P (x ∷ xs) f = (f x (or_left (eq x x) _ (eq_itself o x)), each_from P xs (λ y h. f y (or_right (eq x y) _ h)))

  -- what is below all of them isn't among them
  pub is_among-below : (x : K) (xs : List K) → AllByRecursion (λ y. lt x y ≡ true) xs → is_among eq x xs ≡ false
  is_among-below x [] h = refl
  is_among-below x (y ∷ ys) h = or_from (eq y x) _ (apart_back o x y h.0) (is_among-below x ys h.1)

  pub is_among-above : (x : K) (xs : List K) → AllByRecursion (λ y. lt y x ≡ true) xs → is_among eq x xs ≡ false
  is_among-above x [] h = refl
  is_among-above x (y ∷ ys) h = or_from (eq y x) _ (apart o y x h.0) (is_among-above x ys h.1)

  pub below_each : (x y : K) (ys : List K) → lt x y ≡ true → AllByRecursion (λ z. lt y z ≡ true) ys → AllByRecursion (λ z. lt x z ≡ true) ys
  below_each x y ys h = each_weaker (λ z. lt y z ≡ true) (λ z. lt x z ≡ true) ys (λ z k. o.trans x y z h k)

  -- ---- joined and parted

  pub IsRisingBy-append : (xs ys : List K) → IsRisingBy lt xs → IsRisingBy lt ys → AllByRecursion (λ x. AllByRecursion (λ y. lt x y ≡ true) ys) xs → IsRisingBy lt (xs ++ ys)
  IsRisingBy-append [] ys h k c = k
  IsRisingBy-append (x ∷ xs) ys h k c = (each_append (λ y. lt x y ≡ true) xs ys h.0 c.0, IsRisingBy-append xs ys h.1 k c.1)

  pub IsRisingBy-push : (xs : List K) (y : K) → IsRisingBy lt xs → AllByRecursion (λ x. lt x y ≡ true) xs → IsRisingBy lt (xs ++ y ∷ [])
  IsRisingBy-push xs y h k = IsRisingBy-append xs (y ∷ []) h (tt, tt) (each_weaker (λ x. lt x y ≡ true) (λ x. AllByRecursion (λ z. lt x z ≡ true) (y ∷ [])) xs (λ x p. (p, tt)) k)

  pub IsRisingBy-front : (xs ys : List K) → IsRisingBy lt (xs ++ ys) → IsRisingBy lt xs
  IsRisingBy-front [] ys h = tt
  IsRisingBy-front (x ∷ xs) ys h = ((each_parts (λ y. lt x y ≡ true) xs ys h.0).0, IsRisingBy-front xs ys h.1)

  pub IsRisingBy-back : (xs ys : List K) → IsRisingBy lt (xs ++ ys) → IsRisingBy lt ys
  IsRisingBy-back [] ys h = h
  IsRisingBy-back (x ∷ xs) ys h = IsRisingBy-back xs ys h.1

  pub IsRisingBy-across : (xs ys : List K) → IsRisingBy lt (xs ++ ys) → AllByRecursion (λ x. AllByRecursion (λ y. lt x y ≡ true) ys) xs
  IsRisingBy-across [] ys h = tt
  IsRisingBy-across (x ∷ xs) ys h = ((each_parts (λ y. lt x y ≡ true) xs ys h.0).1, IsRisingBy-across xs ys h.1)

  pub IsRisingBy-filter : (p : K → Bool) (xs : List K) → IsRisingBy lt xs → IsRisingBy lt (filter p xs)
  IsRisingBy-filter p [] h = tt
  IsRisingBy-filter p (x ∷ xs) h = cond_both (p x) (x ∷ filter p xs) (filter p xs) (IsRisingBy lt) (λ _. (each_filter (λ y. lt x y ≡ true) p xs h.0, IsRisingBy-filter p xs h.1)) (λ _. IsRisingBy-filter p xs h.1)

  -- ---- by neighbours

  before_each : (x : K) (xs : List K) → is_before lt x xs ≡ true → IsRisingBy lt xs → AllByRecursion (λ y. lt x y ≡ true) xs
  before_each x [] h k = tt
  before_each x (y ∷ ys) h k = (h, below_each x y ys h k.0)

  before_first : (x : K) (xs : List K) → AllByRecursion (λ y. lt x y ≡ true) xs → is_before lt x xs ≡ true
  before_first x [] h = refl
  before_first x (y ∷ ys) h = h.0

  pub IsRisingBy-from_neighbours : (xs : List K) → is_rising_by lt xs ≡ true → IsRisingBy lt xs
  IsRisingBy-from_neighbours [] h = tt
  IsRisingBy-from_neighbours (x ∷ xs) h =
      let p = and_parts (is_before lt x xs) (is_rising_by lt xs) h in
      let rest = IsRisingBy-from_neighbours xs p.1 in
      (before_each x xs p.0 rest, rest)

  pub neighbours_rise : (xs : List K) → IsRisingBy lt xs → is_rising_by lt xs ≡ true
  neighbours_rise [] h = refl
  neighbours_rise (x ∷ xs) h = and_from (is_before lt x xs) (is_rising_by lt xs) (before_first x xs h.0) (neighbours_rise xs h.1)

  pub is_rising_by-Decides : (xs : List K) → Decides (is_rising_by lt xs) (IsRisingBy lt xs)
  is_rising_by-Decides xs = (IsRisingBy-from_neighbours xs, neighbours_rise xs)

  -- ---- one more element, at its place

  pub each_with : (P : K → Type 0) (x : K) (xs : List K) → P x → AllByRecursion P xs → AllByRecursion P (rising_with lt x xs)
  each_with P x [] p h = (p, tt)
  each_with P x (y ∷ ys) p h =
      cond_both (lt x y) _ _ (AllByRecursion P)
      (λ _. (p, h))
      (λ _. cond_both (lt y x) _ _ (AllByRecursion P) (λ _. (h.0, each_with P x ys p h.1)) (λ _. h))

  pub IsRisingBy-with : (x : K) (xs : List K) → IsRisingBy lt xs → IsRisingBy lt (rising_with lt x xs)
  IsRisingBy-with x [] h = (tt, tt)
  IsRisingBy-with x (y ∷ ys) h =
      cond_both (lt x y) _ _ (IsRisingBy lt)
      (λ e. ((e, below_each x y ys e h.0), h))
      (λ _. cond_both (lt y x) _ _ (IsRisingBy lt) (λ e. (each_with (λ z. lt y z ≡ true) x ys e h.0, IsRisingBy-with x ys h.1)) (λ _. h))

  pub is_among-with : (q x : K) (xs : List K) → is_among eq q (rising_with lt x xs) ≡ (eq x q || is_among eq q xs)
  is_among-with q x [] = refl
  is_among-with q x (y ∷ ys) =
      let Same : List K → Type 0 = λ zs. is_among eq q zs ≡ (eq x q || (eq y q || is_among eq q ys)) in
      cond_both (lt x y) _ _ Same
      (λ _. refl)
      (λ f. cond_both (lt y x) _ _ Same
      (λ _. ap (λ b. eq y q || b) (is_among-with q x ys) ∙ or-swap (eq y q) (eq x q) (is_among eq q ys))
      (λ g. sym (ap (λ z. eq z q || (eq y q || is_among eq q ys)) (o.connected x y f g) ∙ or-twice (eq y q) (is_among eq q ys))))

  -- ---- both lists

  pub IsRisingBy-union : (xs ys : List K) → IsRisingBy lt xs → IsRisingBy lt (rising_union lt xs ys)
  IsRisingBy-union xs [] h = h
  IsRisingBy-union xs (y ∷ ys) h = IsRisingBy-with y (rising_union lt xs ys) (IsRisingBy-union xs ys h)

  pub is_among-union : (q : K) (xs ys : List K) → is_among eq q (rising_union lt xs ys) ≡ (is_among eq q xs || is_among eq q ys)
  is_among-union q xs [] = sym (or-false (is_among eq q xs))
    where
      or-false : (b : Bool) → (b || false) ≡ b
      or-false true = refl
      or-false false = refl
  is_among-union q xs (y ∷ ys) =
      is_among-with q y (rising_union lt xs ys) ∙ ap (λ b. eq y q || b) (is_among-union q xs ys) ∙ or-swap (eq y q) (is_among eq q xs) (is_among eq q ys)

  -- ---- a rising list is determined by its elements

  heads_alike : (x y : K) (xs ys : List K) → IsRisingBy lt (x ∷ xs) → IsRisingBy lt (y ∷ ys) → is_among eq x (y ∷ ys) ≡ true → is_among eq y (x ∷ xs) ≡ true → x ≡ y
  heads_alike x y xs ys h k f g = ⊎_elim
      (λ p. absurd (true≢false (sym f ∙ is_among-below x (y ∷ ys) (p, below_each x y ys p k.0))))
      (λ r. ⊎_elim (λ e. e) (λ p. absurd (true≢false (sym g ∙ is_among-below y (x ∷ xs) (p, below_each y x xs p h.0)))) r)
      (trichotomy o x y)

  tails_alike : (x : K) (xs ys : List K) → AllByRecursion (λ z. lt x z ≡ true) xs → AllByRecursion (λ z. lt x z ≡ true) ys → ((q : K) → is_among eq q (x ∷ xs) ≡ is_among eq q (x ∷ ys)) → (q : K) → is_among eq q xs ≡ is_among eq q ys
  tails_alike x xs ys h k f q = by_test (eq x q) refl
    where
      by_test : (b : Bool) → eq x q ≡ b → is_among eq q xs ≡ is_among eq q ys
      by_test true e =
          let s = (o.decides x q).0 e in
          subst (λ z. is_among eq z xs ≡ is_among eq z ys) s (is_among-below x xs h ∙ sym (is_among-below x ys k))
      by_test false e = sym (ap (λ b. b || is_among eq q xs) e) ∙ f q ∙ ap (λ b. b || is_among eq q ys) e

  pub same_from_among : (xs ys : List K) → IsRisingBy lt xs → IsRisingBy lt ys → ((q : K) → is_among eq q xs ≡ is_among eq q ys) → xs ≡ ys
  same_from_among [] [] h k f = refl
  same_from_among [] (y ∷ ys) h k f = absurd (true≢false (sym (or_left (eq y y) _ (eq_itself o y)) ∙ sym (f y)))
  same_from_among (x ∷ xs) [] h k f = absurd (true≢false (sym (or_left (eq x x) _ (eq_itself o x)) ∙ f x))
  same_from_among (x ∷ xs) (y ∷ ys) h k f =
      let e : x ≡ y = heads_alike x y xs ys h k (sym (f x) ∙ or_left (eq x x) _ (eq_itself o x)) (f y ∙ or_left (eq y y) _ (eq_itself o y)) in
      let k' : IsRisingBy lt (x ∷ ys) = subst (λ z. IsRisingBy lt (z ∷ ys)) (sym e) k in
      let f' : (q : K) → is_among eq q (x ∷ xs) ≡ is_among eq q (x ∷ ys) = λ q. f q ∙ ap (λ z. is_among eq q (z ∷ ys)) (sym e) in
      ap (λ zs. x ∷ zs) (same_from_among xs ys h.1 k.1 (tails_alike x xs ys h.0 k'.0 f')) ∙ ap (λ z. z ∷ ys) e

  -- ---- where an element goes

  pub rising_with-between : (x : K) (xs ys : List K) → AllByRecursion (λ y. lt y x ≡ true) xs → AllByRecursion (λ y. lt x y ≡ true) ys → rising_with lt x (xs ++ ys) ≡ xs ++ x ∷ ys
  rising_with-between x [] [] h k = refl
  rising_with-between x [] (y ∷ ys) h k = cond-true (lt x y) _ _ k.0
  rising_with-between x (y ∷ xs) ys h k =
      cond-false (lt x y) _ _ (asym o y x h.0) ∙ cond-true (lt y x) _ _ h.0 ∙ ap (λ zs. y ∷ zs) (rising_with-between x xs ys h.1 k)

  pub rising_with-last : (x : K) (xs : List K) → AllByRecursion (λ y. lt y x ≡ true) xs → rising_with lt x xs ≡ xs ++ x ∷ []
  rising_with-last x xs h = ap (rising_with lt x) (sym (append-nil xs)) ∙ rising_with-between x xs [] h tt

  pub rising_with-present : (x : K) (xs : List K) → IsRisingBy lt xs → is_among eq x xs ≡ true → rising_with lt x xs ≡ xs
  rising_with-present x xs h e =
      same_from_among (rising_with lt x xs) xs (IsRisingBy-with x xs h) h (λ q. is_among-with q x xs ∙ absorbed q (eq x q) refl)
    where
      absorbed : (q : K) (b : Bool) → eq x q ≡ b → (eq x q || is_among eq q xs) ≡ is_among eq q xs
      absorbed q true p =
          let s = (o.decides x q).0 p in
          or_left (eq x q) _ p ∙ sym (ap (λ z. is_among eq z xs) (sym s) ∙ e)
      absorbed q false p = ap (λ b. b || is_among eq q xs) p

  pub is_among-filter : (q : K) (p : K → Bool) (xs : List K) → is_among eq q (filter p xs) ≡ (p q && is_among eq q xs)
  is_among-filter q p [] = sym (and-false (p q))
    where
      and-false : (b : Bool) → (b && false) ≡ false
      and-false true = refl
      and-false false = refl
  is_among-filter q p (x ∷ xs) =
      cond_both (p x) (x ∷ filter p xs) (filter p xs) (λ zs. is_among eq q zs ≡ (p q && (eq x q || is_among eq q xs)))
      (λ e. ap (λ b. eq x q || b) (is_among-filter q p xs) ∙ kept (eq x q) refl e)
      (λ e. is_among-filter q p xs ∙ dropped (eq x q) refl e)
    where
      kept : (b : Bool) → eq x q ≡ b → p x ≡ true → (eq x q || (p q && is_among eq q xs)) ≡ (p q && (eq x q || is_among eq q xs))
      kept true e f = or_left (eq x q) _ e ∙ sym (and_from (p q) _ (ap p (sym ((o.decides x q).0 e)) ∙ f) (or_left (eq x q) _ e))
      kept false e f = ap (λ b. b || (p q && is_among eq q xs)) e ∙ ap (λ b. p q && (b || is_among eq q xs)) (sym e)

      dropped : (b : Bool) → eq x q ≡ b → p x ≡ false → (p q && is_among eq q xs) ≡ (p q && (eq x q || is_among eq q xs))
      dropped true e f = let g = ap p (sym ((o.decides x q).0 e)) ∙ f in and_left (p q) _ g ∙ sym (and_left (p q) _ g)
      dropped false e f = ap (λ b. p q && (b || is_among eq q xs)) (sym e)

  -- ---- both lists, from their fronts

  rising_with-first : (x : K) (xs : List K) → AllByRecursion (λ y. lt x y ≡ true) xs → rising_with lt x xs ≡ x ∷ xs
  rising_with-first x xs h = rising_with-between x [] xs tt h

  pub each_union : (P : K → Type 0) (xs ys : List K) → AllByRecursion P xs → AllByRecursion P ys → AllByRecursion P (rising_union lt xs ys)
  each_union P xs [] h k = h
  each_union P xs (y ∷ ys) h k = each_with P y (rising_union lt xs ys) k.0 (each_union P xs ys h k.1)

  pub rising_union-nil : (ys : List K) → IsRisingBy lt ys → rising_union lt [] ys ≡ ys
  rising_union-nil [] h = refl
  rising_union-nil (y ∷ ys) h = ap (rising_with lt y) (rising_union-nil ys h.1) ∙ rising_with-first y ys h.0

  -- the first of the left list comes first
  pub rising_union-left : (x : K) (xs ys : List K) → AllByRecursion (λ y. lt x y ≡ true) ys → rising_union lt (x ∷ xs) ys ≡ x ∷ rising_union lt xs ys
  rising_union-left x xs [] h = refl
  rising_union-left x xs (y ∷ ys) h =
      ap (rising_with lt y) (rising_union-left x xs ys h.1)
      ∙ cond-false (lt y x) _ _ (asym o x y h.0) ∙ cond-true (lt x y) _ _ h.0

  -- the first of the right list comes first
  pub rising_union-right : (y : K) (xs ys : List K) → AllByRecursion (λ x. lt y x ≡ true) xs → AllByRecursion (λ z. lt y z ≡ true) ys → rising_union lt xs (y ∷ ys) ≡ y ∷ rising_union lt xs ys
  rising_union-right y xs ys h k = rising_with-first y (rising_union lt xs ys) (each_union (λ z. lt y z ≡ true) xs ys h k)

  -- both begin with one element
  pub rising_union-both : (x : K) (xs ys : List K) → AllByRecursion (λ y. lt x y ≡ true) ys → rising_union lt (x ∷ xs) (x ∷ ys) ≡ x ∷ rising_union lt xs ys
  rising_union-both x xs ys h =
      ap (rising_with lt x) (rising_union-left x xs ys h)
      ∙ cond-false (lt x x) _ _ (o.irrefl x) ∙ cond-false (lt x x) _ _ (o.irrefl x)

  pub IsRisingBy-drop : (i : ℕ) (xs : List K) → IsRisingBy lt xs → IsRisingBy lt (drop i xs)
  IsRisingBy-drop i xs h = IsRisingBy-back (take i xs) (drop i xs) (subst (IsRisingBy lt) (sym (take-append-drop i xs)) h)

  pub IsRisingBy-take : (i : ℕ) (xs : List K) → IsRisingBy lt xs → IsRisingBy lt (take i xs)
  IsRisingBy-take i xs h = IsRisingBy-front (take i xs) (drop i xs) (subst (IsRisingBy lt) (sym (take-append-drop i xs)) h)

  -- ---- unions in any order

  pub rising_union-comm : (xs ys : List K) → IsRisingBy lt xs → IsRisingBy lt ys → rising_union lt xs ys ≡ rising_union lt ys xs
  rising_union-comm xs ys h k =
      same_from_among _ _ (IsRisingBy-union xs ys h) (IsRisingBy-union ys xs k)
      (λ q. is_among-union q xs ys ∙ or-comm (is_among eq q xs) (is_among eq q ys) ∙ sym (is_among-union q ys xs))

  pub rising_union-assoc : (xs ys zs : List K) → IsRisingBy lt xs → rising_union lt (rising_union lt xs ys) zs ≡ rising_union lt xs (rising_union lt ys zs)
  rising_union-assoc xs ys zs h =
      same_from_among _ _ (IsRisingBy-union (rising_union lt xs ys) zs (IsRisingBy-union xs ys h)) (IsRisingBy-union xs (rising_union lt ys zs) h)
      (λ q. is_among-union q (rising_union lt xs ys) zs ∙ ap (λ b. b || is_among eq q zs) (is_among-union q xs ys)
      ∙ or-assoc (is_among eq q xs) (is_among eq q ys) (is_among eq q zs)
      ∙ sym (is_among-union q xs (rising_union lt ys zs) ∙ ap (λ b. is_among eq q xs || b) (is_among-union q ys zs)))

  pub rising_union-itself : (xs : List K) → IsRisingBy lt xs → rising_union lt xs xs ≡ xs
  rising_union-itself xs h = same_from_among _ _ (IsRisingBy-union xs xs h) h (λ q. is_among-union q xs xs ∙ or-itself (is_among eq q xs))
