-- Which shards the keys of a footprint lie in.
use Rattle.std.specs.Prelude.{ℕ, ◌==◌, Bool, List, map, filter}
use Rattle.acc_value.specs.declared.key.Key.{Key}
use Rattle.acc_topology.specs.Layout.{Layout, shard_of}

abbrev pub shard_of_key : Layout → Key → ℕ
shard_of_key layout key = shard_of layout key.key

-- the shards of the keys, one after another
abbrev pub shards_of : Layout → List (Key × Bool) → List ℕ
shards_of layout footprint = map (λ item. shard_of_key layout item.0) footprint

-- the part of a footprint that lies in a shard
abbrev pub share_of : Layout → List (Key × Bool) → ℕ → List (Key × Bool)
share_of layout footprint shard = filter (λ item. shard_of_key layout item.0 == shard) footprint
