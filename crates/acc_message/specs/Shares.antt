-- The shards and the stores of a transaction, and when two transactions conflict in a shard.
use Rattle.std.specs.Prelude.{ℕ, Bool, ◌==◌, List, map}
use Rattle.std.specs.List.{list_any, flat_map}
use Rattle.acc_stamp.specs.declared.actors.Actor.{Actor}
use Rattle.acc_stamp.specs.Actor.{actor_of}
use Rattle.acc_topology.specs.Sets.{in_order}
use Rattle.acc_topology.specs.Layout.{Layout, shard_at}
use Rattle.acc_topology.specs.Keys.{shards_of, share_of}
use Rattle.acc_value.specs.Footprint.{clashes}
use Rattle.acc_txn.specs.declared.parts.BodyParts.{BodyParts}
use Rattle.acc_txn.specs.Uses.{footprint_of}

-- the shards of the keys that a body reads or writes, rising
abbrev pub shards_used : Layout → BodyParts → List ℕ
shards_used layout body = in_order (shards_of layout (footprint_of body))

-- the stores of a shard, in the order of their nodes
abbrev pub stores_of_shard : Layout → ℕ → List Actor
stores_of_shard layout shard = map (λ node. actor_of node shard) (shard_at layout shard).replicas

-- all stores of a transaction: shard by shard, and in a shard node by node
abbrev pub stores_used : Layout → BodyParts → List Actor
stores_used layout body = flat_map (stores_of_shard layout) (shards_used layout body)

abbrev pub is_store_of : Layout → BodyParts → Actor → Bool
is_store_of layout body a = list_any (λ (store : Actor). store.0 == a.0) (stores_used layout body)

-- some key of the shard is used by both, and at least one of the two writes it
abbrev pub conflict_in : Layout → ℕ → BodyParts → BodyParts → Bool
conflict_in layout shard a b =
    clashes (share_of layout (footprint_of a) shard) (share_of layout (footprint_of b) shard)
