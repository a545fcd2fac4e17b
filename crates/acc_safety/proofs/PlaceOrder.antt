-- Places in one list, and elements of lists that are made of others.
use Rattle.std.proofs.Common.{◌≡◌, Bool, true, false, cond, List, [], ◌∷◌, ◌++◌, map, filter, Contains, Option, None, Some, refl, sym, ◌∙◌, ap, subst, ◌⊎◌, inl, inr, ⊎_elim, arith}
use Rattle.std.specs.List.{AllByRecursion, list_any, flat_map, filter_map, cons_option}
use Rattle.std.proofs.lemmas.Bool.{true≢false, or_cases, or_left, or_right}
use Rattle.std.proofs.lemmas.List.Elements.{Contains-append_cases, Contains-push_cases, Contains-append_left, Contains-append_right, Contains-push}
use Rattle.acc_safety.specs.Places.{IsIn, First, Later, StandsAt, Here, Back, IsPast, Whole, Behind, InOrder, IsOlder, IsSame, IsNewer}

module _ {T : Type 0} where
  -- of two places in one list one is the older one, or they are one
  pub in_order : (x y : T) (past before xs : List T) → StandsAt x past xs → StandsAt y before xs → InOrder x y past before
  in_order x y past before xs (Here a rest) (Here b others) = IsSame refl refl
  in_order x y past before xs (Here a rest) (Back b c others cs there) = IsNewer there
  in_order x y past before xs (Back a c rest cs there) (Here b others) = IsOlder there
  in_order x y past before xs (Back a c rest cs there) (Back b d others ds other) = in_order a b rest others cs there other

  pub StandsAt-IsIn : (x : T) (past xs : List T) → StandsAt x past xs → IsIn x xs
  StandsAt-IsIn x past xs (Here a rest) = First a rest
  StandsAt-IsIn x past xs (Back a b rest bs there) = Later a b bs (StandsAt-IsIn a rest bs there)

  -- what a place has after it is a past, with the element in front too
  pub StandsAt-IsPast : (x : T) (past xs : List T) → StandsAt x past xs → IsPast (x ∷ past) xs
  StandsAt-IsPast x past xs (Here a rest) = Whole (a ∷ rest)
  StandsAt-IsPast x past xs (Back a b rest bs there) = Behind b (a ∷ rest) bs (StandsAt-IsPast a rest bs there)

  pub IsPast-rest : (x : T) (past xs : List T) → IsPast (x ∷ past) xs → IsPast past xs
  IsPast-rest x past xs h = by (x ∷ past) xs h past (Behind x past past (Whole past))
    where
      by : (whole xs : List T) → IsPast whole xs → (past : List T) → IsPast past whole → IsPast past xs
      by whole xs (Whole ys) past k = k
      by whole xs (Behind y ys zs there) past k = Behind y past zs (by ys zs there past k)

  pub IsPast-trans : (past middle xs : List T) → IsPast past middle → IsPast middle xs → IsPast past xs
  IsPast-trans past middle xs h (Whole ys) = h
  IsPast-trans past middle xs h (Behind y ys zs there) = Behind y past zs (IsPast-trans past ys zs h there)

  -- a place in a past is one in the whole
  pub StandsAt-whole : (x : T) (past middle xs : List T) → StandsAt x past middle → IsPast middle xs → StandsAt x past xs
  StandsAt-whole x past middle xs h (Whole ys) = h
  StandsAt-whole x past middle xs h (Behind y ys zs there) = Back x y past zs (StandsAt-whole x past ys zs h there)

  -- a place after a place
  pub StandsAt-behind : (x y : T) (past before xs : List T) → StandsAt x past before → StandsAt y before xs → StandsAt x past xs
  StandsAt-behind x y past before xs h at =
      StandsAt-whole x past before xs h (IsPast-rest y before xs (StandsAt-IsPast y before xs at))

  -- ---- elements

  pub only : (x y : T) → IsIn x (y ∷ []) → x ≡ y
  only x y (First a rest) = refl
  only x y (Later a b rest there) = elim there [ ]

  pub none_is_in : (x : T) → IsIn x [] → ⊥
  none_is_in x h = elim h [ ]

  pub IsIn-cases : (x y : T) (xs : List T) → IsIn x (y ∷ xs) → (x ≡ y) ⊎ IsIn x xs
  IsIn-cases x y xs (First a rest) = inl refl
  IsIn-cases x y xs (Later a b rest there) = inr there

  pub IsIn-append_cases : (x : T) (xs ys : List T) → IsIn x (xs ++ ys) → IsIn x xs ⊎ IsIn x ys
  IsIn-append_cases x [] ys h = inr h
  IsIn-append_cases x (z ∷ xs) ys h =
      ⊎_elim (λ same. inl (subst (λ w. IsIn w (z ∷ xs)) (sym same) (First z xs)))
      (λ rest. ⊎_elim (λ left. inl (Later x z xs left)) inr (IsIn-append_cases x xs ys rest))
      (IsIn-cases x z (xs ++ ys) h)

  pub IsIn-append_left : (x : T) (xs ys : List T) → IsIn x xs → IsIn x (xs ++ ys)
  IsIn-append_left x xs ys (First a rest) = First a (rest ++ ys)
  IsIn-append_left x xs ys (Later a b rest there) = Later a b (rest ++ ys) (IsIn-append_left a rest ys there)

  pub IsIn-append_right : (x : T) (xs ys : List T) → IsIn x ys → IsIn x (xs ++ ys)
  IsIn-append_right x [] ys h = h
  IsIn-append_right x (z ∷ xs) ys h = Later x z (xs ++ ys) (IsIn-append_right x xs ys h)

  pub IsIn-cond_cases : (x : T) (b : Bool) (xs ys : List T) → IsIn x (cond b xs ys) → ((b ≡ true) × IsIn x xs) ⊎ ((b ≡ false) × IsIn x ys)
  IsIn-cond_cases x true xs ys h = inl (refl, h)
  IsIn-cond_cases x false xs ys h = inr (refl, h)

  -- what holds of each holds of one
  pub each_at : (P : T → Type 0) (x : T) (xs : List T) → AllByRecursion P xs → IsIn x xs → P x
  each_at P x xs each (First a rest) = each.0
  each_at P x xs each (Later a b rest there) = each_at P a rest each.1 there

  pub each_from : (P : T → Type 0) (xs : List T) → ((x : T) → IsIn x xs → P x) → AllByRecursion P xs
  each_from P [] h = tt
  each_from P (x ∷ xs) h = (h x (First x xs), each_from P xs (λ y there. h y (Later y x xs there)))

  -- ---- the same as std says it

  pub Contains-IsIn : (x : T) (xs : List T) → Contains xs x → IsIn x xs
  Contains-IsIn x [] h = absurd (omega (arith, h.1))
  Contains-IsIn x (y ∷ xs) h =
      ⊎_elim
      (λ first. ⊎_elim (λ none. absurd (omega (arith, none.1))) (λ same. subst (λ z. IsIn z (y ∷ xs)) same (First y xs)) (Contains-push_cases [] y x first))
      (λ rest. Later x y xs (Contains-IsIn x xs rest))
      (Contains-append_cases (y ∷ []) xs x h)

  pub IsIn-Contains : (x : T) (xs : List T) → IsIn x xs → Contains xs x
  IsIn-Contains x xs (First a rest) = Contains-append_left (a ∷ []) rest a (Contains-push [] a)
  IsIn-Contains x xs (Later a b rest there) = Contains-append_right (b ∷ []) rest a (IsIn-Contains a rest there)

  -- ---- tests

  -- an element that passes
  pub record Passing (test : T → Bool) (xs : List T) : Type 0 where
    pub element : T
    pub there : IsIn element xs
    pub passes : test element ≡ true

  pub passing : (test : T → Bool) (xs : List T) → list_any test xs ≡ true → Passing test xs
  passing test [] h = absurd (true≢false (sym h))
  passing test (x ∷ xs) h =
      ⊎_elim (λ here. record { element = x; there = First x xs; passes = here })
      (λ rest.
      let p = passing test xs rest in
      record { element = p.element; there = Later p.element x xs p.there; passes = p.passes })
      (or_cases (test x) (list_any test xs) h)

  pub any_from : (test : T → Bool) (x : T) (xs : List T) → IsIn x xs → test x ≡ true → list_any test xs ≡ true
  any_from test x xs (First a rest) h = or_left (test a) (list_any test rest) h
  any_from test x xs (Later a b rest there) h = or_right (test b) (list_any test rest) (any_from test a rest there h)

  filter_by : (test : T → Bool) (x y : T) (xs : List T) (b : Bool) → test y ≡ b → IsIn x (cond b (y ∷ filter test xs) (filter test xs))
      → (IsIn x (filter test xs) → IsIn x xs × (test x ≡ true)) → IsIn x (y ∷ xs) × (test x ≡ true)
  filter_by test x y xs true is h rest =
      ⊎_elim
      (λ same. (subst (λ z. IsIn z (y ∷ xs)) (sym same) (First y xs), ap test same ∙ is))
      (λ more. let r = rest more in (Later x y xs r.0, r.1))
      (IsIn-cases x y (filter test xs) h)
  filter_by test x y xs false is h rest = let r = rest h in (Later x y xs r.0, r.1)

  pub IsIn-filter : (test : T → Bool) (x : T) (xs : List T) → IsIn x (filter test xs) → IsIn x xs × (test x ≡ true)
  IsIn-filter test x [] h = elim h [ ]
  IsIn-filter test x (y ∷ xs) h = filter_by test x y xs (test y) refl h (IsIn-filter test x xs)

  filter_with : (test : T → Bool) (x y : T) (xs : List T) (b : Bool) → IsIn x (filter test xs) → IsIn x (cond b (y ∷ filter test xs) (filter test xs))
  filter_with test x y xs true h = Later x y (filter test xs) h
  filter_with test x y xs false h = h

  pub filter-IsIn : (test : T → Bool) (x : T) (xs : List T) → IsIn x xs → test x ≡ true → IsIn x (filter test xs)
  filter-IsIn test x xs (First a rest) h = subst (λ b. IsIn a (cond b (a ∷ filter test rest) (filter test rest))) (sym h) (First a (filter test rest))
  filter-IsIn test x xs (Later a b rest there) h = filter_with test a b rest (test b) (filter-IsIn test a rest there h)

cons_some : {B : Type 0} (o : Option B) (y : B) (rest : List B) → IsIn y (cons_option o rest) → (o ≡ Some y) ⊎ IsIn y rest
cons_some None y rest h = inr h
cons_some (Some z) y rest h = ⊎_elim (λ same. inl (ap Some (sym same))) inr (IsIn-cases y z rest h)

-- ---- elements of lists that are mapped

module _ {A B : Type 0} where
  -- the element from which one comes
  pub record From (f : A → B) (y : B) (xs : List A) : Type 0 where
    pub source : A
    pub there : IsIn source xs
    pub is : y ≡ f source

  pub IsIn-map : (f : A → B) (y : B) (xs : List A) → IsIn y (map f xs) → From f y xs
  IsIn-map f y [] h = elim h [ ]
  IsIn-map f y (x ∷ xs) h =
      ⊎_elim (λ same. record { source = x; there = First x xs; is = same })
      (λ rest.
      let p = IsIn-map f y xs rest in
      record { source = p.source; there = Later p.source x xs p.there; is = p.is })
      (IsIn-cases y (f x) (map f xs) h)

  pub map-IsIn : (f : A → B) (x : A) (xs : List A) → IsIn x xs → IsIn (f x) (map f xs)
  map-IsIn f x xs (First a rest) = First (f a) (map f rest)
  map-IsIn f x xs (Later a b rest there) = Later (f a) (f b) (map f rest) (map-IsIn f a rest there)

  -- the element in whose list one is
  pub record FromList (f : A → List B) (y : B) (xs : List A) : Type 0 where
    pub source : A
    pub there : IsIn source xs
    pub within : IsIn y (f source)

  pub IsIn-flat_map : (f : A → List B) (y : B) (xs : List A) → IsIn y (flat_map f xs) → FromList f y xs
  IsIn-flat_map f y [] h = elim h [ ]
  IsIn-flat_map f y (x ∷ xs) h =
      ⊎_elim (λ first. record { source = x; there = First x xs; within = first })
      (λ rest.
      let p = IsIn-flat_map f y xs rest in
      record { source = p.source; there = Later p.source x xs p.there; within = p.within })
      (IsIn-append_cases y (f x) (flat_map f xs) h)

  pub flat_map-IsIn : (f : A → List B) (y : B) (x : A) (xs : List A) → IsIn x xs → IsIn y (f x) → IsIn y (flat_map f xs)
  flat_map-IsIn f y x xs (First a rest) h = IsIn-append_left y (f a) (flat_map f rest) h
  flat_map-IsIn f y x xs (Later a b rest there) h = IsIn-append_right y (f b) (flat_map f rest) (flat_map-IsIn f y a rest there h)

  -- the element that gives one
  pub record FromSome (f : A → Option B) (y : B) (xs : List A) : Type 0 where
    pub source : A
    pub there : IsIn source xs
    pub gives : f source ≡ Some y

  pub IsIn-filter_map : (f : A → Option B) (y : B) (xs : List A) → IsIn y (filter_map f xs) → FromSome f y xs
  IsIn-filter_map f y [] h = elim h [ ]
  IsIn-filter_map f y (x ∷ xs) h =
      ⊎_elim (λ here. record { source = x; there = First x xs; gives = here })
      (λ rest.
      let p = IsIn-filter_map f y xs rest in
      record { source = p.source; there = Later p.source x xs p.there; gives = p.gives })
      (cons_some (f x) y (filter_map f xs) h)
