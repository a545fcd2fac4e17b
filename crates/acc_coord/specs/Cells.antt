-- Cells with those of one shard's keys among some others put in.
use Rattle.std.specs.Prelude.{◌≡◌, ℕ, ◌==◌, List, Option, if◌then◌else◌}
use Rattle.acc_value.specs.declared.key.Key.{Key}
use Rattle.acc_value.specs.declared.value.Value.{Value}
use Rattle.acc_value.specs.Cells.{cell_of, applied}
use Rattle.acc_topology.specs.Layout.{Layout}
use Rattle.acc_topology.specs.Keys.{shard_of_key}

-- a key of the shard has the cell among the others where it stands there, and every other key has what it had
abbrev pub HasCells : Layout → ℕ → List (Key × Option Value) → List (Key × Option Value) → List (Key × Option Value) → Type 0
HasCells layout shard before cells after =
    (key : Key) → cell_of after key ≡ (if shard_of_key layout key == shard then applied (cell_of before) cells key else cell_of before key)
