-- Looking into JSON data, and the rules on one value. A field that isn't there reads as null.
use Rattle.std.specs.Prelude.{ℕ, ◌&&◌, ◌||◌, List, [], ◌∷◌, ◌++◌, find, length, Bool, false, not, Option, Some, None, is_some, nat_le, unwrap_or, option_map, option_and_then}
use Rattle.std.specs.List.{list_any, list_all}
use Rattle.std.specs.Str.{bytes_eq}
use Rattle.serde_json.specs.Data.{Data, null, Items, no_items, item, Members, no_members, member}
use Rattle.serde_json.specs.Find.{get, as_number, as_str, as_array, as_object, as_u64, as_i64}
use Rattle.acc_schedule.specs.declared.error.PlanKind.TheVariants.{Shape, Limit}
use Rattle.acc_schedule.specs.Paths.{Path}
use Rattle.acc_base.specs.Faults.{◌then◌, must}
use Rattle.acc_schedule.specs.Faults.{Fault, unknown_field, bad}

abbrev pub items_list : Items → List Data
items_list no_items = []
items_list (item d ds) = d ∷ items_list ds

-- the elements of an array
abbrev pub elements : Data → Option (List Data)
elements d = option_map items_list (as_array d)

abbrev pub is_array : Data → Bool
is_array d = is_some (elements d)

-- the same, where what isn't an array has none
abbrev pub items : Data → List Data
items d = unwrap_or (elements d) []

-- the value of a field
abbrev pub field : List ℕ → Data → Data
field name d = unwrap_or (get name d) null

abbrev pub is_text : Data → Bool
is_text d = is_some (as_str d)

-- the bytes of a text
abbrev pub text : Data → List ℕ
text d = unwrap_or (as_str d) []

-- ---- numbers

-- a number that isn't negative
abbrev pub natural : Data → Option ℕ
natural d = option_and_then as_u64 (as_number d)

abbrev pub is_whole : Data → Bool
is_whole d = is_some (natural d) || is_some (option_and_then as_i64 (as_number d))

abbrev pub is_from_to : ℕ → ℕ → ℕ → Bool
is_from_to least most n = nat_le least n && nat_le n most

abbrev pub is_number_from_to : ℕ → ℕ → Data → Bool
is_number_from_to least most d = unwrap_or (option_map (is_from_to least most) (natural d)) false

-- a whole number within its limits
abbrev pub number_fault : ℕ → ℕ → Path → Data → Fault
number_fault least most path d =
    must (is_whole d) (bad Shape path) then must (is_number_from_to least most d) (bad Limit path)

abbrev pub number : Data → ℕ
number d = unwrap_or (natural d) 0

-- ---- lists

abbrev pub list_fault : ℕ → Path → Data → Fault
list_fault most path d = must (is_array d) (bad Shape path) then must (nat_le (length (items d)) most) (bad Limit path)

-- ---- objects

abbrev pub member_names : Members → List (List ℕ)
member_names no_members = []
member_names (member name d ms) = name ∷ member_names ms

-- the names of an object's fields, in the order of their bytes
abbrev pub field_names : Data → List (List ℕ)
field_names d = unwrap_or (option_map member_names (as_object d)) []

abbrev pub has_each : List (List ℕ) → Data → Bool
has_each names d = list_all (λ name. is_some (get name d)) names

-- the first field that has none of these names
abbrev pub other_field : List (List ℕ) → Data → Option (List ℕ)
other_field known d = find (λ name. not (list_any (bytes_eq name) known)) (field_names d)

abbrev pub other_fault : Path → Option (List ℕ) → Fault
other_fault path None = None
other_fault path (Some name) = unknown_field path name

-- an object with each of the needed fields, and with no others than these and the optional ones
abbrev pub object_fault : List (List ℕ) → List (List ℕ) → Path → Data → Fault
object_fault needed optional path d =
    must (is_some (as_object d)) (bad Shape path)
    then must (has_each needed d) (bad Shape path)
    then other_fault path (other_field (needed ++ optional) d)
