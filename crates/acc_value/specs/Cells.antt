-- Cells: lists of them by their keys, and maps from keys to cells.
use Rattle.std.specs.Prelude.{Bool, List, [], ◌∷◌, Option, Some, None, unwrap_or}
use Rattle.std.specs.Option.{option_eq}
use Rattle.std.specs.Ordering.{on, eq_of_both}
use Rattle.std.specs.Cmp.Lexicographic.{pointwise}
use Rattle.std.specs.FinMap as map
use Rattle.acc_value.specs.declared.key.Key.{Key}
use Rattle.acc_value.specs.declared.value.Value.{Value}
use Rattle.acc_value.specs.Key.{key_cmp, key_eq}
use Rattle.acc_value.specs.Value.{value_eq}
use Rattle.acc_value.specs.Pairs.{find}

-- what a list of cells has at a key: null where the list lacks it
abbrev pub cell_of : List (Key × Option Value) → Key → Option Value
cell_of cells key = unwrap_or (find cells key) None

-- the cells after these writes: a key that is written has the cell written, every other key the one that it had
abbrev pub applied : (Key → Option Value) → List (Key × Option Value) → Key → Option Value
applied cells writes key = unwrap_or (find writes key) (cells key)

-- the two lists have the same pairs
abbrev pub cells_eq : List (Key × Option Value) → List (Key × Option Value) → Bool
cells_eq = pointwise (eq_of_both (on (λ p. p.0) key_eq) (on (λ p. p.1) (option_eq value_eq)))

-- a finite map from keys to values
abbrev pub Map : Type 0
Map = map.FinMap key_cmp Value

-- the cells of a map: null where it has no value
abbrev pub cells_of : Map → Key → Option Value
cells_of m key = map.get m key

-- the map with this cell at a key
abbrev pub with_cell : Map → Key → Option Value → Map
with_cell m key None = map.remove m key
with_cell m key (Some value) = map.insert m key value

-- the map of these pairs, where the first of a key counts
abbrev pub map_of : List (Key × Option Value) → Map
map_of [] = map.empty
map_of (pair ∷ pairs) = with_cell (map_of pairs) pair.0 pair.1
