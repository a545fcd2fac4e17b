-- Names and the places at which they stand.
use Rattle.std.specs.Prelude.{◌≡◌, ℕ, ◌<◌, List, [], IsTrue, length, position, slice_index_or, take, Option, Vec, not}
use Rattle.std.specs.Global.{Global}
use Rattle.std.specs.List.{list_any}
use Rattle.std.specs.Str.{bytes_eq}
use Rattle.std.specs.Cmp.Lexicographic.{slice_cmp}
use Rattle.std.specs.Ordering.{nat_cmp}
use Rattle.std.specs.BTreeMap.{BTreeMap, get_by}

-- the place that a map has for a name
abbrev pub place_in : BTreeMap (Vec ℕ Global) ℕ → List ℕ → Option ℕ
place_in places name = get_by (λ key. slice_cmp nat_cmp name key.items) places

-- the map has the place of each name
abbrev pub ArePlaces : List (List ℕ) → BTreeMap (Vec ℕ Global) ℕ → Type 0
ArePlaces names places = (name : List ℕ) → place_in places name ≡ position (bytes_eq name) names

-- none of the names stands before at another place
abbrev pub AreOnce : List (List ℕ) → Type 0
AreOnce names = (place : ℕ) → place < length names → IsTrue (not (list_any (bytes_eq (slice_index_or names place [])) (take place names)))
