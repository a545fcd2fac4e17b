-- What contracts see of a topology: a layout, for its sets of bits.
use Rattle.std.specs.Prelude.{ℕ, List, map}
use Rattle.acc_topology.specs.declared.shard.Shard.{Shard}
use Rattle.acc_topology.specs.Sets.{members}
use Rattle.acc_topology.specs.Layout.{Layout, Shard as Part}

abbrev pub shard_view : Shard → Part
shard_view s = record { end = s.end; replicas = members s.replicas; electorate = members s.electorate }

abbrev pub layout_view : ℕ → List Shard → Layout
layout_view nodes shards = record { nodes = members nodes; shards = map shard_view shards }
