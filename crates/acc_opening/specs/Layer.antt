-- The cells of a store with the writes of a step laid over them.
use Rattle.std.specs.Prelude.{◌≡◌, ℕ, ◌==◌, cond, List, [], Option, filter}
use Rattle.std.specs.List.{fold}
use Rattle.acc_topology.specs.Layout.{Layout}
use Rattle.acc_topology.specs.Keys.{shard_of_key}
use Rattle.acc_value.specs.declared.key.Key.{Key}
use Rattle.acc_value.specs.declared.value.Value.{Value}
use Rattle.acc_value.specs.Cells.{applied}
use Rattle.acc_value.specs.Pairs.{put}
use Rattle.acc_record.specs.declared.cells.Cells.{Cells}
use Rattle.acc_record.specs.Shelf.{cell_at}

-- the cell of a key: what is written over it, or else what the store has
abbrev pub layered : Cells → List (Key × Option Value) → Key → Option Value
layered cells writes = applied (cell_at cells) writes

-- over any cells, the new writes make what the added ones make over the old ones
abbrev pub WritesOver : List (Key × Option Value) → List (Key × Option Value) → List (Key × Option Value) → Type 0
WritesOver old added new = (cells : Key → Option Value) (key : Key) → applied cells new key ≡ applied (applied cells old) added key

-- the cells of these keys that lie in the shard, put to those that were read
abbrev pub read_more : Layout → ℕ → (Key → Option Value) → List (Key × Option Value) → List Key → List (Key × Option Value)
read_more layout shard cells so_far keys =
    fold (λ so_far key. put so_far key (cells key)) so_far (filter (λ key. shard_of_key layout key == shard) keys)
