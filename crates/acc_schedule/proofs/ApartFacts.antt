-- The rules of a root without one of its fields.
use Rattle.std.proofs.Common.{◌≡◌, ℕ, Bool, true, false, not, ◌&&◌, ◌||◌, cond, List, [], ◌∷◌, ◌++◌, filter, find, Option, Some, None, is_some, unwrap_or, codes, refl, sym, ap, ◌∙◌, append_assoc}
use Rattle.std.specs.List.{list_any}
use Rattle.std.specs.Str.{bytes_eq}
use Rattle.std.specs.Ordering.{nat_cmp, match_ordering, is_eq}
use Rattle.std.specs.declared.cmp.Ordering.{Ordering}
use Rattle.std.specs.declared.cmp.Ordering.TheVariants.{Less, Equal, Greater}
use Rattle.std.specs.Cmp.Lexicographic.{slice_cmp}
use Rattle.std.proofs.lemmas.Bool.{and_parts, false_from_ne_true, true≢false}
use Rattle.std.proofs.lemmas.List.Folds.{list_any-append}
use Rattle.std.proofs.lemmas.Map.Text.{is_eq-slice_cmp}
use Rattle.std.proofs.lemmas.Slice.Eq.{bytes_eq-Decides}
use Rattle.serde_json.specs.Data.{Data, null, boolean, number, string, array, object, Members, no_members, member}
use Rattle.serde_json.specs.Find.{get, get_member, as_object}
use Rattle.acc_base.specs.Faults.{◌then◌, must}
use Rattle.acc_base.proofs.Faults.{then_none, must_none}
use Rattle.acc_schedule.specs.declared.error.PlanKind.TheVariants.{Shape}
use Rattle.acc_schedule.specs.Faults.{bad, fault}
use Rattle.acc_schedule.specs.Fields.{field, field_names, has_each, member_names, object_fault, other_fault, other_field}
use Rattle.acc_schedule.specs.Apart.{members_without, without}
use Rattle.acc_schedule.specs.Document.{needed_fields, Root, root_fault, root_of}

-- ---- names

apart_back : (a b : List ℕ) → bytes_eq a b ≡ false → bytes_eq b a ≡ false
apart_back a b h = false_from_ne_true _ (λ e. true≢false (sym ((bytes_eq-Decides a b).1 (sym ((bytes_eq-Decides b a).0 e))) ∙ h))

pub same_back : (a b : List ℕ) (t : Bool) → bytes_eq a b ≡ t → bytes_eq b a ≡ t
same_back a b true h = (bytes_eq-Decides b a).1 (sym ((bytes_eq-Decides a b).0 h))
same_back a b false h = apart_back a b h

-- a name that is the first isn't the third where the second isn't
not_third : (k apart l : List ℕ) → bytes_eq k apart ≡ true → bytes_eq l apart ≡ false → bytes_eq k l ≡ false
not_third k apart l same other =
    false_from_ne_true _ (λ e. true≢false (sym ((bytes_eq-Decides l apart).1 (sym ((bytes_eq-Decides k l).0 e) ∙ (bytes_eq-Decides k apart).0 same)) ∙ other))

-- ---- looking for a field

pub passed_by : {X : Type 0} (r : Ordering) (x y : X) → is_eq r ≡ false → match_ordering r x y x ≡ x
passed_by Less x y h = refl
passed_by Equal x y h = absurd cc
passed_by Greater x y h = refl

none_of_none : {X : Type 0} (b : Bool) → let none : Option X = None in cond b none none ≡ none
none_of_none true = refl
none_of_none false = refl

get_member-without : (apart k : List ℕ) (ms : Members) → get_member k (members_without apart ms) ≡ cond (bytes_eq k apart) None (get_member k ms)
get_member-without apart k no_members = sym (none_of_none (bytes_eq k apart))
get_member-without apart k (member l e ms) = by_name (bytes_eq l apart) refl (bytes_eq k apart) refl (get_member-without apart k ms)
  where
    by_name : (b : Bool) → bytes_eq l apart ≡ b → (t : Bool) → bytes_eq k apart ≡ t → get_member k (members_without apart ms) ≡ cond (bytes_eq k apart) None (get_member k ms)
        → get_member k (cond b (members_without apart ms) (member l e (members_without apart ms))) ≡ cond (bytes_eq k apart) None (match_ordering (slice_cmp nat_cmp k l) (get_member k ms) (Some e) (get_member k ms))
    by_name true same true is rest = rest ∙ ap (λ b. cond b None (get_member k ms)) is ∙ sym (ap (λ b. cond b None (match_ordering (slice_cmp nat_cmp k l) (get_member k ms) (Some e) (get_member k ms))) is)
    by_name true same false is rest =
        let other : bytes_eq k l ≡ false = apart_back l k (not_third l apart k same is) in
        let past : match_ordering (slice_cmp nat_cmp k l) (get_member k ms) (Some e) (get_member k ms) ≡ get_member k ms = passed_by _ _ _ (is_eq-slice_cmp k l ∙ other) in
        rest ∙ ap (cond (bytes_eq k apart) None) (sym past)
    by_name false other true is rest =
        let none : get_member k (members_without apart ms) ≡ None = rest ∙ ap (λ b. cond b None (get_member k ms)) is in
        let past : match_ordering (slice_cmp nat_cmp k l) (get_member k (members_without apart ms)) (Some e) (get_member k (members_without apart ms)) ≡ get_member k (members_without apart ms) =
        passed_by _ _ _ (is_eq-slice_cmp k l ∙ not_third k apart l is other) in
        past ∙ none ∙ sym (ap (λ b. cond b None (match_ordering (slice_cmp nat_cmp k l) (get_member k ms) (Some e) (get_member k ms))) is)
    by_name false other false is rest =
        let found : get_member k (members_without apart ms) ≡ get_member k ms = rest ∙ ap (λ b. cond b None (get_member k ms)) is in
        ap (λ x. match_ordering (slice_cmp nat_cmp k l) x (Some e) x) found ∙ sym (ap (λ b. cond b None (match_ordering (slice_cmp nat_cmp k l) (get_member k ms) (Some e) (get_member k ms))) is)

pub get-without : (apart k : List ℕ) (d : Data) → get k (without apart d) ≡ cond (bytes_eq k apart) None (get k d)
get-without apart k null = sym (none_of_none (bytes_eq k apart))
get-without apart k (boolean b) = sym (none_of_none (bytes_eq k apart))
get-without apart k (number n) = sym (none_of_none (bytes_eq k apart))
get-without apart k (string s) = sym (none_of_none (bytes_eq k apart))
get-without apart k (array ds) = sym (none_of_none (bytes_eq k apart))
get-without apart k (object ms) = get_member-without apart k ms

-- ---- the fields that there are

is_object : (apart : List ℕ) (d : Data) → is_some (as_object (without apart d)) ≡ is_some (as_object d)
is_object apart null = refl
is_object apart (boolean b) = refl
is_object apart (number n) = refl
is_object apart (string s) = refl
is_object apart (array ds) = refl
is_object apart (object ms) = refl

abbrev differs : List ℕ → List ℕ → Bool
differs apart name = not (bytes_eq name apart)

member_names-without : (apart : List ℕ) (ms : Members) → member_names (members_without apart ms) ≡ filter (differs apart) (member_names ms)
member_names-without apart no_members = refl
member_names-without apart (member l e ms) = by_name (bytes_eq l apart) (member_names-without apart ms)
  where
    by_name : (b : Bool) → member_names (members_without apart ms) ≡ filter (differs apart) (member_names ms)
        → member_names (cond b (members_without apart ms) (member l e (members_without apart ms))) ≡ cond (not b) (l ∷ filter (differs apart) (member_names ms)) (filter (differs apart) (member_names ms))
    by_name true rest = rest
    by_name false rest = ap (λ names. l ∷ names) rest

field_names-without : (apart : List ℕ) (d : Data) → field_names (without apart d) ≡ filter (differs apart) (field_names d)
field_names-without apart null = refl
field_names-without apart (boolean b) = refl
field_names-without apart (number n) = refl
field_names-without apart (string s) = refl
field_names-without apart (array ds) = refl
field_names-without apart (object ms) = member_names-without apart ms

find-filter : {X : Type 0} (p q : X → Bool) (xs : List X) → find p (filter q xs) ≡ find (λ x. q x && p x) xs
find-filter p q [] = refl
find-filter p q (x ∷ xs) = by_test (q x) (p x) (find-filter p q xs)
  where
    by_test : (b t : Bool) → find p (filter q xs) ≡ find (λ y. q y && p y) xs → find p (cond b (x ∷ filter q xs) (filter q xs)) ≡ cond (b && p x) (Some x) (find (λ y. q y && p y) xs)
    by_test true t rest = ap (cond (p x) (Some x)) rest
    by_test false t rest = rest

known_more : (apart : List ℕ) (known : List (List ℕ)) (name : List ℕ) → (differs apart name && not (list_any (bytes_eq name) known)) ≡ not (list_any (bytes_eq name) (known ++ apart ∷ []))
known_more apart known name = by_tests (bytes_eq name apart) (list_any (bytes_eq name) known) ∙ ap not (sym (list_any-append (bytes_eq name) known (apart ∷ [])))
  where
    by_tests : (b t : Bool) → (not b && not t) ≡ not (t || (b || false))
    by_tests true true = refl
    by_tests true false = refl
    by_tests false true = refl
    by_tests false false = refl

other_field-without : (apart : List ℕ) (known : List (List ℕ)) (d : Data) → other_field known (without apart d) ≡ other_field (known ++ apart ∷ []) d
other_field-without apart known d =
    ap (find (λ name. not (list_any (bytes_eq name) known))) (field_names-without apart d)
    ∙ find-filter (λ name. not (list_any (bytes_eq name) known)) (differs apart) (field_names d)
    ∙ ap (λ (p : List ℕ → Bool). find p (field_names d)) (λ i name. known_more apart known name i)

-- ---- the fields that are needed

found_kept : (apart name : List ℕ) (d : Data) → bytes_eq apart name ≡ false → is_some (get name (without apart d)) ≡ is_some (get name d)
found_kept apart name d other = ap is_some (get-without apart name d ∙ ap (λ b. cond b None (get name d)) (apart_back apart name other))

has_each-without : (apart : List ℕ) (needed : List (List ℕ)) (d : Data) → list_any (bytes_eq apart) needed ≡ false → has_each needed (without apart d) ≡ has_each needed d
has_each-without apart [] d none = refl
has_each-without apart (name ∷ needed) d none =
    by_test (has_each-without apart needed d) (bytes_eq apart name) refl none
  where
    by_test : (list_any (bytes_eq apart) needed ≡ false → has_each needed (without apart d) ≡ has_each needed d) → (b : Bool) → bytes_eq apart name ≡ b → (b || list_any (bytes_eq apart) needed) ≡ false → has_each (name ∷ needed) (without apart d) ≡ has_each (name ∷ needed) d
    by_test rest true is h = absurd (true≢false h)
    by_test rest false is h = λ i. found_kept apart name d is i && rest h i

lacks : (apart : List ℕ) (needed : List (List ℕ)) (d : Data) → list_any (bytes_eq apart) needed ≡ true → has_each needed (without apart d) ≡ false
lacks apart [] d some = absurd cc
lacks apart (name ∷ needed) d some = by_test (lacks apart needed d) (bytes_eq apart name) refl some
  where
    and_false : (a b : Bool) → b ≡ false → (a && b) ≡ false
    and_false true b h = h
    and_false false b h = refl

    by_test : (list_any (bytes_eq apart) needed ≡ true → has_each needed (without apart d) ≡ false) → (b : Bool) → bytes_eq apart name ≡ b → (b || list_any (bytes_eq apart) needed) ≡ true → has_each (name ∷ needed) (without apart d) ≡ false
    by_test rest true is h =
        let gone : is_some (get name (without apart d)) ≡ false = ap is_some (get-without apart name d ∙ ap (λ b. cond b None (get name d)) (same_back apart name true is)) in
        ap (λ b. b && has_each needed (without apart d)) gone
    by_test rest false is h = and_false (is_some (get name (without apart d))) _ (rest h)

-- ---- the rules of the root

-- the field that is set apart may stand among the optional ones
pub object_fault-without : (apart : List ℕ) (needed optional : List (List ℕ)) (d : Data) → list_any (bytes_eq apart) needed ≡ false → object_fault needed optional [] (without apart d) ≡ object_fault needed (optional ++ apart ∷ []) [] d
object_fault-without apart needed optional d none =
    let other : other_field (needed ++ optional) (without apart d) ≡ other_field (needed ++ (optional ++ apart ∷ [])) d =
    other_field-without apart (needed ++ optional) d ∙ ap (λ known. other_field known d) (append_assoc needed optional (apart ∷ [])) in
    λ i. must (is_object apart d i) (bad Shape []) then must (has_each-without apart needed d none i) (bad Shape []) then other_fault [] (other i)

-- a needed field can't be set apart
pub object_fault-lacks : (apart : List ℕ) (needed optional : List (List ℕ)) (d : Data) → list_any (bytes_eq apart) needed ≡ true → object_fault needed optional [] (without apart d) ≡ fault Shape []
object_fault-lacks apart needed optional d some =
    ap (λ b. must (is_some (as_object (without apart d))) (bad Shape []) then must b (bad Shape []) then other_fault [] (other_field (needed ++ optional) (without apart d))) (lacks apart needed d some)
    ∙ by_test (is_some (as_object (without apart d)))
  where
    by_test : (b : Bool) → (must b (bad Shape []) then must false (bad Shape []) then other_fault [] (other_field (needed ++ optional) (without apart d))) ≡ fault Shape []
    by_test true = refl
    by_test false = refl

-- ---- its fields

kept : (apart name : List ℕ) (d : Data) → is_some (get name (without apart d)) ≡ true → field name d ≡ field name (without apart d)
kept apart name d h = by_test (bytes_eq name apart) refl
  where
    by_test : (b : Bool) → bytes_eq name apart ≡ b → field name d ≡ field name (without apart d)
    by_test true is = absurd (true≢false (sym h ∙ ap is_some (get-without apart name d ∙ ap (λ b. cond b None (get name d)) is)))
    by_test false is = ap (λ found. unwrap_or found null) (sym (get-without apart name d ∙ ap (λ b. cond b None (get name d)) is))

-- a root that has all that it must have has the same without the field
pub same_root : (apart : List ℕ) (d : Data) (print : Option Data) → root_fault (without apart d) ≡ None → root_of d print ≡ root_of (without apart d) print
same_root apart d print none =
    let there : has_each needed_fields (without apart d) ≡ true = must_none _ (bad Shape []) (then_none (must (is_some (as_object (without apart d))) (bad Shape [])) _ (then_none _ (other_fault [] (other_field (needed_fields ++ codes "print" ∷ []) (without apart d))) none).0).1 in
    let a = and_parts (is_some (get (codes "version") (without apart d))) _ there in
    let b = and_parts (is_some (get (codes "nodes") (without apart d))) _ a.1 in
    let e = and_parts (is_some (get (codes "shards") (without apart d))) _ b.1 in
    let f = and_parts (is_some (get (codes "txns") (without apart d))) _ e.1 in
    let g = and_parts (is_some (get (codes "schedule") (without apart d))) _ f.1 in
    λ i. root_by (kept apart (codes "version") d a.0 i) (kept apart (codes "nodes") d b.0 i) (kept apart (codes "shards") d e.0 i) (kept apart (codes "txns") d f.0 i) (kept apart (codes "schedule") d g.0 i)
  where
    root_by : Data → Data → Data → Data → Data → Root
    root_by version nodes shards txns schedule = record { version = version; nodes = nodes; shards = shards; txns = txns; schedule = schedule; print = unwrap_or print (string (codes "lines")) }
