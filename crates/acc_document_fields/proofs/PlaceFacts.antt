-- Names of which none stands twice, and the map of their places.
use Rattle.std.proofs.Common.{◌≡◌, ℕ, ◌+◌, ◌<◌, ◌≤◌, List, [], ◌∷◌, ◌++◌, length, take, get_or, Bool, true, false, not, cond, eqb, ltb, Option, Some, None, Vec, Global, ⊎_elim, position, is_some, refl, sym, ap, subst, ◌∙◌, arith}
use Rattle.std.specs.BTreeMap.{BTreeMap, UpdatesBy, is_at}
use Rattle.std.specs.declared.cmp.Ordering.{Ordering}
use Rattle.std.specs.Cmp.{eq_by_cmp_equiv}
use Rattle.std.specs.Cmp.Lexicographic.{slice_cmp, nat_list_cmp_total}
use Rattle.std.specs.List.{list_any, position_or_len}
use Rattle.std.specs.Map.{lookup, AreApart, IsKeyTest, KeepsOthers}
use Rattle.std.specs.Ordering.{is_eq, nat_cmp}
use Rattle.std.specs.Str.{bytes_eq}
use Rattle.std.proofs.lemmas.Bool.{cases_Bool, cases_lt, cond-true, cond-false, true≢false, false_from_ne_true}
use Rattle.std.proofs.lemmas.Bool.Decides.{nat_tests}
use Rattle.std.proofs.lemmas.List.{get_or_append_left, get_or_default, get_or_push, get_or-take, length-append, length-take, take_at, take-append-le}
use Rattle.std.proofs.lemmas.List.Folds.{Any-from_list_any, list_any_at, position_or_len_push}
use Rattle.std.proofs.lemmas.List.Quantifiers.{position-Some}
use Rattle.std.proofs.lemmas.List.Sums.{fails_before_first, prefix_len-le-length}
use Rattle.std.proofs.lemmas.Map.Text.{is_eq-slice_cmp}
use Rattle.std.proofs.lemmas.Slice.Eq.{bytes_eq-Decides}
use Rattle.acc_base.specs.Faults.{or_else}
use Rattle.acc_document_fields.specs.Names.{place_in, AreOnce}

-- ---- a place that is entered

abbrev pub vec_order : Vec ℕ Global → Vec ℕ Global → Ordering
vec_order a b = slice_cmp nat_cmp a.items b.items

module _ {K X : Type 0} (eq : K → K → Bool) (test : K → Bool) where
  kept : (old new : List (K × X)) → KeepsOthers eq test old new → (other : K → Bool) → IsKeyTest eq other → AreApart test other → lookup other new ≡ lookup other old
  unfolding KeepsOthers
  kept old new h = h

apart : (a b c : List ℕ) → bytes_eq a b ≡ false → is_eq (slice_cmp nat_cmp a c) ≡ true → is_eq (slice_cmp nat_cmp b c) ≡ false
apart a b c differ same =
    false_from_ne_true (is_eq (slice_cmp nat_cmp b c)) (λ also.
    let first : a ≡ c = (bytes_eq-Decides a c).0 (sym (is_eq-slice_cmp a c) ∙ same) in
    let second : b ≡ c = (bytes_eq-Decides b c).0 (sym (is_eq-slice_cmp b c) ∙ also) in
    true≢false (sym ((bytes_eq-Decides a b).1 (first ∙ sym second)) ∙ differ))

pub place_after : (name : List ℕ) (old new : BTreeMap (Vec ℕ Global) ℕ) (w : Option ℕ) → UpdatesBy vec_order (λ key. slice_cmp nat_cmp name key.items) old new w
    → (other : List ℕ) → place_in new other ≡ cond (bytes_eq name other) w (place_in old other)
place_after name old new w h other =
    ⊎_elim
    (λ yes. subst (λ (n : List ℕ). place_in new n ≡ w) ((bytes_eq-Decides name other).0 yes) h.1 ∙ sym (cond-true (bytes_eq name other) w (place_in old other) yes))
    (λ no.
    kept _ _ old.entries new.entries h.3 (is_at (λ key. slice_cmp nat_cmp other key.items)) (λ x y. (eq_by_cmp_equiv nat_list_cmp_total).congr other x.items y.items)
    (λ key. apart name other key.items no) ∙ sym (cond-false (bytes_eq name other) w (place_in old other) no))
    (cases_Bool (bytes_eq name other))

-- a place that is put back is as before
pub as_before : (name : List ℕ) (before : ℕ) (w : Option ℕ) (old between new : List ℕ → Option ℕ) → old name ≡ Some before
    → ((other : List ℕ) → between other ≡ cond (bytes_eq name other) w (old other)) → ((other : List ℕ) → new other ≡ cond (bytes_eq name other) (Some before) (between other))
    → (other : List ℕ) → new other ≡ old other
as_before name before w old between new was first second other =
    second other ∙ (λ i. cond (bytes_eq name other) (Some before) (first other i)) ∙ (elim (bytes_eq name other) as (λ b. bytes_eq name other ≡ b → cond b (Some before) (cond b w (old other)) ≡ old other) [
      | true ↦ λ yes. sym (subst (λ (n : List ℕ). old n ≡ Some before) ((bytes_eq-Decides name other).0 yes) was)
      | false ↦ λ no. refl
    ] refl)

-- ---- the place of a name

not_below : (a b : ℕ) → cond (ltb a b) (Some a) None ≡ None → b ≤ a
not_below a b e =
    elim (ltb a b) as (λ t. ltb a b ≡ t → cond t (Some a) None ≡ None → b ≤ a) [
      | true ↦ λ is h. cc
      | false ↦ λ is h. grind (arith, nat_tests, is)
    ] refl e

-- a name is there where it has a place
pub known_is : (names : List (List ℕ)) (name : List ℕ) → list_any (bytes_eq name) names ≡ is_some (position (bytes_eq name) names)
known_is names name =
    elim (position (bytes_eq name) names) as (λ o. position (bytes_eq name) names ≡ o → list_any (bytes_eq name) names ≡ is_some o) [
      | Some i ↦ λ e.
          let at = position-Some (bytes_eq name) names i [] e in
          list_any_at (bytes_eq name) names i [] at.0 at.1
      | None ↦ λ e. false_from_ne_true (list_any (bytes_eq name) names) (λ found.
          let any = Any-from_list_any (bytes_eq name) names found in
          let far : length names ≤ position_or_len (bytes_eq name) names = not_below _ _ e in
          let fails = fails_before_first (bytes_eq name) names any.0 any.1 (omega (arith, far, any.2)) in
          true≢false (sym any.4 ∙ ap (bytes_eq name) (sym any.3) ∙ fails))
    ] refl

-- a name that has no place is new
pub fresh_is : (names : List (List ℕ)) (name : List ℕ) (fresh : Bool) → fresh ≡ not (is_some (position (bytes_eq name) names)) → fresh ≡ true → list_any (bytes_eq name) names ≡ false
fresh_is names name fresh is new = known_is names name ∙ absent (is_some (position (bytes_eq name) names)) (sym is ∙ new)
  where
    absent : (b : Bool) → not b ≡ true → b ≡ false
    absent true e = sym e
    absent false e = refl

no_place : (o : Option ℕ) → false ≡ is_some o → o ≡ None
no_place None e = refl
no_place (Some place) e = absurd (true≢false (sym e))

pushed_at : (n len : ℕ) (here : Bool) → n ≤ len
    → cond (ltb (cond (eqb n len) (len + cond here 0 1) n) (len + 1)) (Some (cond (eqb n len) (len + cond here 0 1) n)) None ≡ or_else (cond (ltb n len) (Some n) None) (cond here (Some len) None)
pushed_at n len here most =
    ⊎_elim
    (λ less. grind (arith, nat_tests, less))
    (λ least. elim here [
      | true ↦ grind (arith, nat_tests, least, most)
      | false ↦ grind (arith, nat_tests, least, most)
    ])
    (cases_lt n len)

-- a place in a list that ends with one name more
position_push : (p : List ℕ → Bool) (names : List (List ℕ)) (name : List ℕ)
    → position p (names ++ name ∷ []) ≡ or_else (position p names) (cond (p name) (Some (length names)) None)
position_push p names name =
    (λ i. cond (ltb (position_or_len_push p names name i) (length-append names (name ∷ []) i)) (Some (position_or_len_push p names name i)) None)
    ∙ pushed_at (position_or_len p names) (length names) (p name) (prefix_len-le-length (λ other. not (p other)) names)

or_none : (o : Option ℕ) → or_else o None ≡ o
or_none None = refl
or_none (Some place) = refl

swapped : (a b : List ℕ) → bytes_eq a b ≡ false → bytes_eq b a ≡ false
swapped a b differ = false_from_ne_true (bytes_eq b a) (λ same. true≢false (sym ((bytes_eq-Decides a b).1 (sym ((bytes_eq-Decides b a).0 same))) ∙ differ))

-- the places once a new name has its own
pub placed : (names : List (List ℕ)) (name : List ℕ) (place : ℕ) (other : List ℕ) → place ≡ length names → list_any (bytes_eq name) names ≡ false
    → cond (bytes_eq name other) (Some place) (position (bytes_eq other) names) ≡ position (bytes_eq other) (names ++ name ∷ [])
placed names name place other is fresh =
    elim (bytes_eq name other) as (λ b. bytes_eq name other ≡ b → cond b (Some place) (position (bytes_eq other) names) ≡ position (bytes_eq other) (names ++ name ∷ [])) [
      | true ↦ λ yes.
          let same : name ≡ other = (bytes_eq-Decides name other).0 yes in
          let none : position (bytes_eq other) names ≡ None =
          no_place (position (bytes_eq other) names) (sym fresh ∙ ap (λ (n : List ℕ). list_any (bytes_eq n) names) same ∙ known_is names other) in
          let here : bytes_eq other name ≡ true = (bytes_eq-Decides other name).1 (sym same) in
          ap Some is ∙ sym (position_push (bytes_eq other) names name ∙ (λ i. or_else (none i) (cond (here i) (Some (length names)) None)))
      | false ↦ λ no.
          sym (position_push (bytes_eq other) names name ∙ (λ i. or_else (position (bytes_eq other) names) (cond (swapped name other no i) (Some (length names)) None))
          ∙ or_none (position (bytes_eq other) names))
    ] refl

-- ---- names that stand once

pub once_push : (names : List (List ℕ)) (name : List ℕ) → AreOnce names → list_any (bytes_eq name) names ≡ false → AreOnce (names ++ name ∷ [])
once_push names name once fresh place within =
    ⊎_elim
    (λ less.
    (λ i. not (list_any (bytes_eq (get_or_append_left names (name ∷ []) [] place less i)) (take-append-le place names (name ∷ []) (omega (arith, less)) i))) ∙ once place less)
    (λ most.
    let last : length names ≡ place = omega (arith, most, within, length-append names (name ∷ [])) in
    (λ i. not (list_any (bytes_eq (get_or_push names name [] place last i)) (take_at names (name ∷ []) place last i))) ∙ ap not fresh)
    (cases_lt place (length names))

-- ---- names that stand once

-- two places of which one is before the other have names that differ
pub places_differ : (names : List (List ℕ)) (i j : ℕ) → AreOnce names → i < j → j < length names → get_or names i [] ≡ get_or names j [] → ⊥
places_differ names i j once before within same =
    let there : list_any (bytes_eq (get_or names j [])) (take j names) ≡ true =
    list_any_at (bytes_eq (get_or names j [])) (take j names) i [] (omega (arith, length-take j names, before, within))
    ((bytes_eq-Decides (get_or names j []) (get_or (take j names) i [])).1 (sym same ∙ sym (get_or-take j names i [] before))) in
    true≢false (sym (once j within) ∙ ap not there)

-- a name has the place at which it stands
pub place_is : (names : List (List ℕ)) (place : ℕ) (name : List ℕ) → AreOnce names → place < length names → get_or names place [] ≡ name → position (bytes_eq name) names ≡ Some place
place_is names place name once within there = by (position (bytes_eq name) names) refl
  where
    here : bytes_eq name (get_or names place []) ≡ true
    here = (bytes_eq-Decides name (get_or names place [])).1 (sym there)

    by : (o : Option ℕ) → position (bytes_eq name) names ≡ o → o ≡ Some place
    by None is = absurd (true≢false (sym (list_any_at (bytes_eq name) names place [] within here) ∙ known_is names name ∙ ap is_some is))
    by (Some i) is =
        let at = position-Some (bytes_eq name) names i [] is in
        let same : get_or names i [] ≡ get_or names place [] = sym ((bytes_eq-Decides name (get_or names i [])).0 at.1) ∙ sym there in
        ⊎_elim (λ less. absurd (places_differ names i place once less within same)) (λ most.
        ⊎_elim (λ less. absurd (places_differ names place i once less at.0 (sym same))) (λ least. ap Some (omega (arith, most, least))) (cases_lt place i)) (cases_lt i place)

-- a name that is equal to the one at a place has that place
pub place_tested : (items names : List (List ℕ)) (place : ℕ) (found other name : List ℕ) (same : Bool) → AreOnce names → items ≡ names → place < length items
    → found ≡ get_or items place found → other ≡ found → same ≡ bytes_eq other name → same ≡ true → position (bytes_eq name) names ≡ Some place
place_tested items names place found other name same once are within at is tests equals =
    let low : place < length names = subst (λ (l : List (List ℕ)). place < length l) are within in
    let here : get_or names place [] ≡ found = get_or_default names place [] found low ∙ ap (λ (l : List (List ℕ)). get_or l place found) (sym are) ∙ sym at in
    let equal : other ≡ name = (bytes_eq-Decides other name).0 (sym tests ∙ equals) in
    place_is names place name once low (here ∙ sym is ∙ equal)
