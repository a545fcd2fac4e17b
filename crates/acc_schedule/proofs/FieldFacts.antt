-- A JSON value's parts, as its data has them.
use Rattle.std.proofs.Common.{◌≡◌, ◌==◌, ℕ, ◌&&◌, ◌||◌, List, [], ◌∷◌, ◌++◌, length, find, map, zip, Bool, true, false, not, cond, Option, Some, None, is_some, option_map, String, Vec, Global, Bor, string_bytes, refl, sym, ap, ap₂, ◌∙◌, arith}
use Rattle.std.specs.List.{list_any, list_all}
use Rattle.std.specs.Map.{keys_of}
use Rattle.std.specs.Str.{bytes_eq}
use Rattle.std.specs.Ordering.{nat_cmp, match_ordering, is_eq}
use Rattle.std.specs.declared.cmp.Ordering.{Ordering}
use Rattle.std.specs.declared.cmp.Ordering.TheVariants.{Less, Equal, Greater}
use Rattle.std.specs.Cmp.Lexicographic.{slice_cmp}
use Rattle.std.proofs.lemmas.Map.Text.{is_eq-slice_cmp}
use Rattle.std.proofs.lemmas.Bool.Decides.{nat_tests}
use Rattle.std.proofs.lemmas.Slice.Eq.{bytes_eq-Decides}
use Rattle.std.proofs.lemmas.List.Folds.{list_all-map, list_any-append}
use Rattle.serde_json.specs.Data.{Data, null, boolean, number, string, array, object, Members, no_members, member}
use Rattle.serde_json.specs.Find.{get, get_member, as_array, as_object}
use Rattle.serde_json.specs.View.{view, items_of, items_view, members_view}
use Rattle.serde_json.specs.declared.value.Value.{Value, Array}
use Rattle.serde_json.proofs.Views.{view-Array}
use Rattle.acc_schedule.specs.declared.error.PlanKind.TheVariants.{Shape}
use Rattle.acc_schedule.specs.Paths.{Path}
use Rattle.acc_schedule.specs.Faults.{fault}
use Rattle.acc_schedule.specs.Fields.{items_list, elements, field_names, member_names, object_fault, other_field, other_fault}
use Rattle.acc_schedule.specs.Parts.{is_among}

pub items_list-items_of : (ds : List Data) → items_list (items_of ds) ≡ ds
items_list-items_of [] = refl
items_list-items_of (d ∷ ds) = ap (λ rest. d ∷ rest) (items_list-items_of ds)

pub elements-as_array : (d : Data) (vs xs : List Value) → Some (items_view vs) ≡ as_array d → xs ≡ vs → Some (map view xs) ≡ elements d
elements-as_array d vs xs e same = rw (← e, same) (ap Some (sym (items_list-items_of (map view vs))))

pub elements-Array : (v : Vec Value Global) → Some (map view v.items) ≡ elements (view (Array v))
elements-Array v = elements-as_array (view (Array v)) v.items v.items (ap as_array (sym (view-Array v))) refl

abbrev pub Entry : Type 0
Entry = String Global × Value

member_names-members_view : (es : List Entry) → member_names (members_view es) ≡ map string_bytes (keys_of es)
member_names-members_view [] = refl
member_names-members_view (e ∷ es) = ap (λ rest. string_bytes e.0 ∷ rest) (member_names-members_view es)

pub list_any-map : {X Y : Type 0} (p : X → Bool) (h : Y → X) (ys : List Y) → list_any p (map h ys) ≡ list_any (λ y. p (h y)) ys
list_any-map p h [] = refl
list_any-map p h (y ∷ ys) = ap (λ b. p (h y) || b) (list_any-map p h ys)

find-map : {X Y : Type 0} (p : X → Bool) (h : Y → X) (ys : List Y) → find p (map h ys) ≡ option_map h (find (λ y. p (h y)) ys)
find-map p h [] = refl
find-map p h (y ∷ ys) =
    elim (p (h y)) as (λ b. cond b (Some (h y)) (find p (map h ys)) ≡ option_map h (cond b (Some y) (find (λ z. p (h z)) ys))) [
      | true ↦ refl
      | false ↦ find-map p h ys
    ]

abbrev texts : List (Bor (List ℕ)) → List (List ℕ)
texts names = map (λ name. name.now) names

among : (needed optional : List (Bor (List ℕ))) (key : List ℕ)
    → list_any (bytes_eq key) (texts needed ++ texts optional) ≡ (is_among key needed || is_among key optional)
among needed optional key =
    list_any-append (bytes_eq key) (texts needed) (texts optional)
    ∙ (λ i. list_any-map (bytes_eq key) (λ name. name.now) needed i || list_any-map (bytes_eq key) (λ name. name.now) optional i)

other_field-as_object : (d : Data) (es : List Entry) (needed optional : List (Bor (List ℕ))) → Some (members_view es) ≡ as_object d
    → other_field (texts needed ++ texts optional) d
    ≡ option_map string_bytes (find (λ key. not (is_among (string_bytes key) needed || is_among (string_bytes key) optional)) (keys_of es))
other_field-as_object d es needed optional e =
    rw (← e, member_names-members_view, find-map (λ name. not (list_any (bytes_eq name) (texts needed ++ texts optional))) string_bytes (keys_of es))
    (λ i. option_map string_bytes (find (λ key. not (among needed optional (string_bytes key) i)) (keys_of es)))

-- where the object has each needed field, another field decides
object_fault-each : (d : Data) (es : List Entry) (needed optional : List (Bor (List ℕ))) (path : Path) → Some (members_view es) ≡ as_object d
    → true ≡ list_all (λ name. is_some (get name.now d)) needed
    → object_fault (texts needed) (texts optional) path d ≡ other_fault path (other_field (texts needed ++ texts optional) d)
object_fault-each d es needed optional path e each = rw (← e, list_all-map, ← each) refl

-- where it lacks one
pub object_fault-missing : (d : Data) (es : List Entry) (needed optional : List (Bor (List ℕ))) (path : Path) → Some (members_view es) ≡ as_object d
    → false ≡ list_all (λ name. is_some (get name.now d)) needed → object_fault (texts needed) (texts optional) path d ≡ fault Shape path
object_fault-missing d es needed optional path e missing = rw (← e, list_all-map, ← missing) refl

-- what a look for another field says of the whole
pub object_fault-found : (d : Data) (es : List Entry) (needed optional : List (Bor (List ℕ))) (path : Path) (found : Option (Bor (List ℕ))) → Some (members_view es) ≡ as_object d
    → true ≡ list_all (λ name. is_some (get name.now d)) needed
    → option_map (λ name. name.now) found ≡ option_map string_bytes (find (λ key. not (is_among (string_bytes key) needed || is_among (string_bytes key) optional)) (keys_of es))
    → object_fault (texts needed) (texts optional) path d ≡ other_fault path (option_map (λ name. name.now) found)
object_fault-found d es needed optional path found e each f =
    object_fault-each d es needed optional path e each ∙ ap (other_fault path) (other_field-as_object d es needed optional e ∙ sym f)

-- where the fields are the needed ones

abbrev is_in : List (List ℕ) → List ℕ → Bool
is_in names name = list_any (bytes_eq name) names

found_at : {X : Type 0} (o : Ordering) (e : X) (x : Option X) (same there : Bool) → is_eq o ≡ same → (same || there) ≡ true → (there ≡ true → is_some x ≡ true) → is_some (match_ordering o x (Some e) x) ≡ true
found_at Equal e x same there is any h = refl
found_at Less e x true there is any h = cc
found_at Less e x false there is any h = h any
found_at Greater e x true there is any h = cc
found_at Greater e x false there is any h = h any

member_found : (name : List ℕ) (ms : Members) → is_in (member_names ms) name ≡ true → is_some (get_member name ms) ≡ true
member_found name no_members there = cc
member_found name (member l e ms) there =
    found_at (slice_cmp nat_cmp name l) e (get_member name ms) (bytes_eq name l) (is_in (member_names ms) name) (is_eq-slice_cmp name l) there (member_found name ms)

field_found : (d : Data) (ms : Members) (name : List ℕ) → Some ms ≡ as_object d → is_in (member_names ms) name ≡ true → is_some (get name d) ≡ true
field_found null ms name e there = cc
field_found (boolean b) ms name e there = cc
field_found (number n) ms name e there = cc
field_found (string s) ms name e there = cc
field_found (array ds) ms name e there = cc
field_found (object others) ms name e there =
    let same : ms ≡ others = cc in
    member_found name others (ap (λ m. is_in (member_names m) name) (sym same) ∙ there)

in_front : (name : List ℕ) (names : List (List ℕ)) → is_in (name ∷ names) name ≡ true
in_front name names = ap (λ b. b || is_in names name) ((bytes_eq-Decides name name).1 refl)

behind : (a b : Bool) → b ≡ true → (a || b) ≡ true
behind true b is = refl
behind false b is = is

all_in : (p : List ℕ → Bool) (names : List (List ℕ)) → ((name : List ℕ) → is_in names name ≡ true → p name ≡ true) → list_all p names ≡ true
all_in p [] h = refl
all_in p (name ∷ names) h =
    ap₂ ◌&&◌ (h name (in_front name names)) (all_in p names (λ other there. h other (behind (bytes_eq other name) (is_in names other) there)))

none_in : (p : List ℕ → Bool) (names : List (List ℕ)) → ((name : List ℕ) → is_in names name ≡ true → p name ≡ false) → find p names ≡ None
none_in p [] h = refl
none_in p (name ∷ names) h =
    ap (λ b. cond b (Some name) (find p names)) (h name (in_front name names))
    ∙ none_in p names (λ other there. h other (behind (bytes_eq other name) (is_in names other) there))

known : (name : List ℕ) (needed optional : List (List ℕ)) → is_in needed name ≡ true → not (is_in (needed ++ optional) name) ≡ false
known name needed optional there =
    ap (λ b. not b) (list_any-append (bytes_eq name) needed optional ∙ ap (λ b. b || is_in optional name) there)

both : (a b : Bool) → (a && b) ≡ true → (a ≡ true) × (b ≡ true)
both true b is = (refl, is)
both false b is = cc

same_names : (names : List (String Global)) (needed : List (Bor (List ℕ))) → length names ≡ length needed
    → list_all (λ pair. bytes_eq (string_bytes pair.0) pair.1.now) (zip names needed) ≡ true → map string_bytes names ≡ texts needed
same_names [] [] few all = refl
same_names [] (n ∷ needed) few all = absurd (omega arith)
same_names (m ∷ names) [] few all = absurd (omega arith)
same_names (m ∷ names) (n ∷ needed) few all =
    let h = both (bytes_eq (string_bytes m) n.now) (list_all (λ pair. bytes_eq (string_bytes pair.0) pair.1.now) (zip names needed)) all in
    ap₂ ◌∷◌ ((bytes_eq-Decides (string_bytes m) n.now).0 h.0) (same_names names needed (omega arith) h.1)

pub object_fault-named : (d : Data) (es : List Entry) (needed optional : List (Bor (List ℕ))) (path : Path) → Some (members_view es) ≡ as_object d
    → true ≡ (length (keys_of es) == length needed && list_all (λ pair. bytes_eq (string_bytes pair.0) pair.1.now) (zip (keys_of es) needed))
    → object_fault (texts needed) (texts optional) path d ≡ None
object_fault-named d es needed optional path e named =
    let h = both (length (keys_of es) == length needed) (list_all (λ pair. bytes_eq (string_bytes pair.0) pair.1.now) (zip (keys_of es) needed)) (sym named) in
    let few : length (keys_of es) ≡ length needed = grind (arith, nat_tests, h.0) in
    let names : member_names (members_view es) ≡ texts needed = member_names-members_view es ∙ same_names (keys_of es) needed few h.1 in
    let each : list_all (λ name. is_some (get name d)) (texts needed) ≡ true =
    all_in (λ name. is_some (get name d)) (texts needed) (λ name there. field_found d (members_view es) name e (ap (λ ns. is_in ns name) names ∙ there)) in
    let others : find (λ name. not (is_in (texts needed ++ texts optional) name)) (texts needed) ≡ None =
    none_in (λ name. not (is_in (texts needed ++ texts optional) name)) (texts needed) (λ name there. known name (texts needed) (texts optional) there) in
    let fields : field_names d ≡ texts needed = rw (← e) names in
    object_fault-each d es needed optional path e (sym each ∙ list_all-map (λ name. is_some (get name d)) (λ (name : Bor (List ℕ)). name.now) needed)
    ∙ ap (other_fault path) (ap (λ ns. find (λ name. not (is_in (texts needed ++ texts optional) name)) ns) fields ∙ others)
