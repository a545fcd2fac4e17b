-- The transactions that a decision does not name, by the index of keys and by the lines.
use Rattle.std.proofs.Common.{◌≡◌, ℕ, ◌<◌, ◌==◌, List, [], ◌∷◌, length, get_or, Bool, true, false, not, ◌&&◌, ◌||◌, nat_le, Option, Some, None, unwrap_or, slice_get, refl, sym, ap, ap₂, ◌∙◌, arith}
use Rattle.std.specs.Prelude.{option_and_then}
use Rattle.std.specs.List.{list_any}
use Rattle.std.specs.Str.{bytes_eq}
use Rattle.std.proofs.lemmas.Bool.{true≢false, false_from_ne_true}
use Rattle.std.proofs.lemmas.Bool.Decides.{Decides-eqb, nat_tests}
use Rattle.std.proofs.lemmas.Option.{unwrap_or-slice_get}
use Rattle.std.proofs.lemmas.Slice.Eq.{bytes_eq-Decides}
use Rattle.acc_stamp.specs.declared.stamps.Stamp.{Stamp}
use Rattle.acc_stamp.specs.Stamp.{stamp_lt}
use Rattle.acc_value.specs.declared.key.Key.{Key}
use Rattle.acc_value.specs.Footprint.{clashes}
use Rattle.acc_value.proofs.Clash.{clashes-nil}
use Rattle.acc_txn.specs.declared.parts.BodyParts.{BodyParts}
use Rattle.acc_txn.specs.Uses.{footprint_of}
use Rattle.acc_report_line.specs.declared.line.Line.{Line}
use Rattle.acc_audit.specs.Said.{decision_in, is_lower, decides_below}
use Rattle.acc_audit.specs.Fronts.{number_of, body_of, no_body, conflict}
use Rattle.acc_audit.specs.Rules.{Differ, is_unnamed, is_missed}
use Rattle.acc_audit.specs.Users.{Map, users_at, uses_at, touches, has_mark, is_lacking, lacks_some, AreLeast, IsIndex}
use Rattle.acc_audit.proofs.NumberFacts.{numbered, own_number}
use Rattle.acc_audit.proofs.DecisionFacts.{same_from}

-- ---- tests of some element

pub any_alike : {X : Type 0} (p q : X → Bool) (xs : List X) → ((x : X) → p x ≡ q x) → list_any p xs ≡ list_any q xs
any_alike p q [] alike = refl
any_alike p q (x ∷ xs) alike = ap₂ ◌||◌ (alike x) (any_alike p q xs alike)

any_false : {X : Type 0} (xs : List X) → list_any (λ _. false) xs ≡ false
any_false [] = refl
any_false (x ∷ xs) = any_false xs

or_swap : (a b c d : Bool) → ((a || b) || (c || d)) ≡ ((a || c) || (b || d))
or_swap true b c d = refl
or_swap false true true d = refl
or_swap false true false d = refl
or_swap false false c d = refl

any_or : {X : Type 0} (g h : X → Bool) (xs : List X) → (list_any g xs || list_any h xs) ≡ list_any (λ x. g x || h x) xs
any_or g h [] = refl
any_or g h (x ∷ xs) = or_swap (g x) (list_any g xs) (h x) (list_any h xs) ∙ ap (λ t. (g x || h x) || t) (any_or g h xs)

any_swap : {X Y : Type 0} (f : X → Y → Bool) (xs : List X) (ys : List Y) → list_any (λ x. list_any (λ y. f x y) ys) xs ≡ list_any (λ y. list_any (λ x. f x y) xs) ys
any_swap f [] ys = sym (any_false ys)
any_swap f (x ∷ xs) ys =
    ap (λ t. list_any (λ y. f x y) ys || t) (any_swap f xs ys)
    ∙ any_or (λ y. f x y) (λ y. list_any (λ z. f z y) xs) ys

and_over : (a b c : Bool) → ((a && c) || (b && c)) ≡ ((a || b) && c)
and_over true true true = refl
and_over true true false = refl
and_over true false true = refl
and_over true false false = refl
and_over false b c = refl

any_and : {X : Type 0} (p : X → Bool) (b : Bool) (xs : List X) → list_any (λ x. p x && b) xs ≡ (list_any p xs && b)
any_and p b [] = refl
any_and p b (x ∷ xs) = ap (λ t. (p x && b) || t) (any_and p b xs) ∙ and_over (p x) (list_any p xs) b

or_right : (a b : Bool) → b ≡ true → (a || b) ≡ true
or_right true b h = refl
or_right false b h = h

-- an element that passes a test
pub record Found {X : Type 0} (p : X → Bool) (xs : List X) : Type 0 where
  pub it : X
  pub passes : p it ≡ true
  pub any : (q : X → Bool) → q it ≡ true → list_any q xs ≡ true

pub found : {X : Type 0} (p : X → Bool) (xs : List X) → list_any p xs ≡ true → Found p xs
found p [] h = absurd (true≢false (sym h))
found p (x ∷ xs) h =
    elim (p x) as (λ b. p x ≡ b → (b || list_any p xs) ≡ true → Found p (x ∷ xs)) [
      | true ↦ λ is here. record { it = x; passes = is; any = λ q yes. ap (λ b. b || list_any q xs) yes }
      | false ↦ λ is later.
          let f = found p xs later in
          record { it = f.it; passes = f.passes; any = λ q yes. or_right (q x) (list_any q xs) (f.any q yes) }
    ] refl h

-- ---- by the index, and by the lines

module _ (names : List (List ℕ)) (bodies : List BodyParts) (lines : List Line) (users : Map) (n : ℕ) (name : List ℕ) (t : Stamp) (deps : List (List ℕ)) (marks : List ℕ) (mark : ℕ) where
  -- an entry that conflicts, is lower and is not named
  abbrev is_wanted : Stamp × ℕ → Bool
  is_wanted entry = clashes (uses_at bodies n) (uses_at bodies entry.1) && is_lacking n t marks mark entry

  lacks_is : (order : List (Stamp × ℕ)) → ((key : Key) (writes : Bool) (test : Stamp × ℕ → Bool) → list_any test (users_at users key writes) ≡ list_any (λ entry. touches key writes (uses_at bodies entry.1) && test entry) order)
      → lacks_some users n t marks mark (uses_at bodies n) ≡ list_any is_wanted order
  lacks_is order are =
      any_alike (λ used. list_any (is_lacking n t marks mark) (users_at users used.0 used.1)) (λ used. list_any (λ entry. touches used.0 used.1 (uses_at bodies entry.1) && is_lacking n t marks mark entry) order) (uses_at bodies n)
      (λ used. are used.0 used.1 (is_lacking n t marks mark))
      ∙ any_swap (λ used entry. touches used.0 used.1 (uses_at bodies entry.1) && is_lacking n t marks mark entry) (uses_at bodies n) order
      ∙ any_alike (λ entry. list_any (λ used. touches used.0 used.1 (uses_at bodies entry.1) && is_lacking n t marks mark entry) (uses_at bodies n)) is_wanted order
      (λ entry. any_and (λ used. touches used.0 used.1 (uses_at bodies entry.1)) (is_lacking n t marks mark entry) (uses_at bodies n))

  body_at : (other : List ℕ) (m : ℕ) → number_of names other ≡ Some m → footprint_of (body_of names bodies other) ≡ uses_at bodies m
  body_at other m is = ap (λ (o : Option ℕ). footprint_of (unwrap_or (option_and_then (slice_get bodies) o) no_body)) is ∙ ap footprint_of (unwrap_or-slice_get bodies m no_body)

  both_true : (a b : Bool) → (a && b) ≡ true → (a ≡ true) × (b ≡ true)
  both_true true b h = (refl, h)
  both_true false b h = absurd (true≢false (sym h))

  not_true : (a : Bool) → not a ≡ true → a ≡ false
  not_true true h = absurd (true≢false (sym h))
  not_true false h = refl

  -- a name that conflicts with something has a number
  numbered_by : (other : List ℕ) → conflict names bodies name other ≡ true → (m : ℕ) × (number_of names other ≡ Some m)
  numbered_by other h =
      elim (number_of names other) as (λ o. number_of names other ≡ o → (m : ℕ) × (number_of names other ≡ Some m)) [
        | Some m ↦ λ is. (m, is)
        | None ↦ λ is.
            let empty : footprint_of (body_of names bodies other) ≡ [] = ap (λ (o : Option ℕ). footprint_of (unwrap_or (option_and_then (slice_get bodies) o) no_body)) is in
            absurd (true≢false (sym h ∙ ap (clashes (footprint_of (body_of names bodies name))) empty ∙ clashes-nil (footprint_of (body_of names bodies name))))
      ] refl

  module _ (differ : Differ names) (is : number_of names name ≡ Some n) (least : (m : ℕ) (u : Stamp) → m < length names → (order : List (Stamp × ℕ)) → AreLeast names lines order → list_any (λ entry. (entry.1 == m) && stamp_lt entry.0 u) order ≡ list_any (decides_below (get_or names m []) u) lines)
      (marked : (m : ℕ) → m < length names → has_mark marks m mark ≡ list_any (bytes_eq (get_or names m [])) deps) where
    here : footprint_of (body_of names bodies name) ≡ uses_at bodies n
    here = body_at name n is

    conflict_at : (other : List ℕ) (m : ℕ) → number_of names other ≡ Some m → conflict names bodies name other ≡ clashes (uses_at bodies n) (uses_at bodies m)
    conflict_at other m other_is = ap₂ clashes here (body_at other m other_is)

    -- from an entry to a line
    line_of : (order : List (Stamp × ℕ)) → AreLeast names lines order → list_any is_wanted order ≡ true → list_any (is_missed names bodies name t deps) lines ≡ true
    line_of order are h =
        let f = found is_wanted order h in
        let e : Stamp × ℕ = f.it in
        let m : ℕ = e.1 in
        let wanted = both_true (clashes (uses_at bodies n) (uses_at bodies m)) (is_lacking n t marks mark e) f.passes in
        let lower = both_true (stamp_lt e.0 t && not (m == n)) (not (has_mark marks m mark)) wanted.1 in
        let below = both_true (stamp_lt e.0 t) (not (m == n)) lower.0 in
        let within : m < length names = below_count m (false_from_ne_true (nat_le (length names) m) (λ far. true≢false (sym (f.any (λ (x : Stamp × ℕ). nat_le (length names) x.1) far) ∙ are.within))) in
        let other : List ℕ = get_or names m [] in
        let own : number_of names other ≡ Some m = own_number names m differ within in
        let hit : list_any (λ (x : Stamp × ℕ). (x.1 == m) && stamp_lt x.0 t) order ≡ true =
        f.any (λ (x : Stamp × ℕ). (x.1 == m) && stamp_lt x.0 t) (ap₂ ◌&&◌ ((Decides-eqb m m).1 refl) below.0) in
        let g = found (decides_below other t) lines (sym (least m t within order are) ∙ hit) in
        g.any (is_missed names bodies name t deps) (missed (decision_in g.it) other m own wanted.0 (not_true (m == n) below.1) (not_true (has_mark marks m mark) lower.1) within g.passes)
      where
        below_count : (k : ℕ) → nat_le (length names) k ≡ false → k < length names
        below_count k far = grind (arith, nat_tests, far)

        same_one : (a b : ℕ) → Some a ≡ Some b → a ≡ b
        same_one a b e = cc

        missed : (said : Option (List ℕ × Stamp)) (other : List ℕ) (m : ℕ) → number_of names other ≡ Some m → clashes (uses_at bodies n) (uses_at bodies m) ≡ true → (m == n) ≡ false → has_mark marks m mark ≡ false → m < length names
            → is_lower other t said ≡ true → is_unnamed names bodies name t deps said ≡ true
        missed None other m own clash apart unmarked within lower = lower
        missed (Some said) other m own clash apart unmarked within lower =
            let parts = both_true (bytes_eq other said.0) (stamp_lt said.1 t) lower in
            let same : other ≡ said.0 = (bytes_eq-Decides other said.0).0 parts.0 in
            let there = (numbered names other m own).1 in
            let differs : bytes_eq said.0 name ≡ false = false_from_ne_true (bytes_eq said.0 name) (λ equal.
            let named : other ≡ name = same ∙ (bytes_eq-Decides said.0 name).0 equal in
            let numbers : Some m ≡ Some n = sym own ∙ ap (number_of names) named ∙ is in
            true≢false (sym ((Decides-eqb m n).1 (same_one m n numbers)) ∙ apart)) in
            let unlisted : list_any (bytes_eq said.0) deps ≡ false = ap (λ x. list_any (bytes_eq x) deps) (sym same ∙ sym there) ∙ sym (marked m within) ∙ unmarked in
            let clashing : conflict names bodies name said.0 ≡ true = ap (conflict names bodies name) (sym same) ∙ conflict_at other m own ∙ clash in
            ap₂ ◌&&◌ (ap₂ ◌&&◌ (ap₂ ◌&&◌ parts.1 (ap not differs)) clashing) (ap not unlisted)

    -- and back
    entry_of : (order : List (Stamp × ℕ)) → AreLeast names lines order → list_any (is_missed names bodies name t deps) lines ≡ true → list_any is_wanted order ≡ true
    entry_of order are h =
        let g = found (is_missed names bodies name t deps) lines h in
        by_said g.it (decision_in g.it) refl g.passes g.any
      where
        by_said : (it : Line) (said : Option (List ℕ × Stamp)) → decision_in it ≡ said → is_unnamed names bodies name t deps said ≡ true → ((q : Line → Bool) → q it ≡ true → list_any q lines ≡ true) → list_any is_wanted order ≡ true
        by_said it None says h any = absurd (true≢false (sym h))
        by_said it (Some said) says h any =
            let other : List ℕ = said.0 in
            let last = both_true (stamp_lt said.1 t && not (bytes_eq other name) && conflict names bodies name other) (not (list_any (bytes_eq other) deps)) h in
            let third = both_true (stamp_lt said.1 t && not (bytes_eq other name)) (conflict names bodies name other) last.0 in
            let first = both_true (stamp_lt said.1 t) (not (bytes_eq other name)) third.0 in
            let number = numbered_by other third.1 in
            let m : ℕ = number.0 in
            let own : number_of names other ≡ Some m = number.1 in
            let there = numbered names other m own in
            let lower : list_any (decides_below (get_or names m []) t) lines ≡ true = any (decides_below (get_or names m []) t)
            (ap (is_lower (get_or names m []) t) says ∙ ap₂ ◌&&◌ ((bytes_eq-Decides (get_or names m []) other).1 there.1) first.0) in
            let f = found (λ (x : Stamp × ℕ). (x.1 == m) && stamp_lt x.0 t) order (least m t there.0 order are ∙ lower) in
            let e : Stamp × ℕ = f.it in
            let parts = both_true (e.1 == m) (stamp_lt e.0 t) f.passes in
            let at : e.1 ≡ m = (Decides-eqb e.1 m).0 parts.0 in
            let apart : (m == n) ≡ false = false_from_ne_true (m == n) (λ same.
            let equal : m ≡ n = (Decides-eqb m n).0 same in
            let named : other ≡ name = sym there.1 ∙ ap (λ k. get_or names k []) equal ∙ (numbered names name n is).1 in
            true≢false (sym ((bytes_eq-Decides other name).1 named) ∙ not_true (bytes_eq other name) first.1)) in
            let unmarked : has_mark marks m mark ≡ false = marked m there.0 ∙ ap (λ x. list_any (bytes_eq x) deps) there.1 ∙ not_true (list_any (bytes_eq other) deps) last.1 in
            f.any is_wanted
            (ap₂ ◌&&◌ (ap (λ k. clashes (uses_at bodies n) (uses_at bodies k)) at ∙ sym (conflict_at other m own) ∙ third.1)
            (ap₂ ◌&&◌ (ap₂ ◌&&◌ parts.1 (ap (λ k. not (k == n)) at ∙ ap not apart)) (ap (λ k. not (has_mark marks k mark)) at ∙ ap not unmarked)))

-- what the index tells of a decision is what the lines do
pub missed_is : (names : List (List ℕ)) (bodies : List BodyParts) (lines : List Line) (users : Map) (n : ℕ) (name : List ℕ) (t : Stamp) (deps : List (List ℕ)) (marks : List ℕ) (mark : ℕ) → Differ names → number_of names name ≡ Some n → IsIndex names bodies lines users
    → ((m : ℕ) → m < length names → has_mark marks m mark ≡ list_any (bytes_eq (get_or names m [])) deps)
    → lacks_some users n t marks mark (uses_at bodies n) ≡ list_any (is_missed names bodies name t deps) lines
missed_is names bodies lines users n name t deps marks mark differ is index marked =
    let least = λ (m : ℕ) (u : Stamp) (within : m < length names) (order : List (Stamp × ℕ)) (are : AreLeast names lines order). are.least m u within in
    lacks_is names bodies lines users n name t deps marks mark index.order index.are_users
    ∙ same_from (list_any (is_wanted names bodies lines users n name t deps marks mark) index.order) (list_any (is_missed names bodies name t deps) lines)
    (line_of names bodies lines users n name t deps marks mark differ is least marked index.order index.are_least)
    (entry_of names bodies lines users n name t deps marks mark differ is least marked index.order index.are_least)
