-- The nodes and shards of a document as a cluster.
use Rattle.std.specs.Prelude.{ℕ, List, [], ◌∷◌, Bool, false, not, codes, decimal, slice_get, Option, Some, None, option_map, unwrap_or}
use Rattle.acc_topology.specs.declared.error.TopologyError.{TopologyError}
use Rattle.acc_topology.specs.declared.error.TopologyError.TheVariants.{Wrong, OutOfMemory}
use Rattle.acc_topology.specs.declared.error.TopologyKind.{TopologyKind}
use Rattle.acc_topology.specs.declared.error.TopologyKind.TheVariants.{NoNode, NoShard, Order, Replicas, Twice, UnknownNode, Electorate}
use Rattle.acc_topology.specs.declared.given.NodeSpec.{NodeSpec}
use Rattle.acc_topology.specs.declared.given.ShardSpec.{ShardSpec}
use Rattle.acc_topology.specs.Sets.{is_among}
use Rattle.acc_topology.specs.Faults.{ids, is_new, nodes_fault, shards_fault}
use Rattle.acc_schedule.specs.declared.error.PlanKind.TheVariants.{Topology}
use Rattle.acc_schedule.specs.declared.error.PlanError.TheVariants.{Bad}
use Rattle.acc_schedule.specs.Paths.{Path, path_text, field_path, item_path, part_path}
use Rattle.acc_base.specs.Faults.{◌then◌}
use Rattle.acc_schedule.specs.Faults.{Fault}

-- the numbers of the refusals
abbrev pub detail_of : TopologyKind → ℕ
detail_of NoNode = 1
detail_of NoShard = 2
detail_of Order = 3
detail_of Replicas = 4
detail_of Twice = 5
detail_of UnknownNode = 6
detail_of Electorate = 7

-- a replica of a shard
abbrev pub replica_path : ℕ → ℕ → Path
replica_path shard item = codes "shards" ∷ decimal shard ∷ codes "replicas" ∷ decimal item ∷ []

-- where a fault of the nodes stands: at the node that stands twice, or there is none
abbrev pub node_path : TopologyKind → ℕ → ℕ → Path
node_path Twice shard item = item_path (codes "nodes") item
node_path _ shard item = field_path (codes "nodes")

-- where a fault of the shards stands
abbrev pub shard_path : TopologyKind → ℕ → ℕ → Path
shard_path NoShard shard item = field_path (codes "shards")
shard_path Order shard item = part_path (codes "shards") shard (codes "end")
shard_path Replicas shard item = part_path (codes "shards") shard (codes "replicas")
shard_path Electorate shard item = part_path (codes "shards") shard (codes "electorate")
shard_path _ shard item = replica_path shard item

-- the topology's fault, with its place in the document
abbrev pub placed : (TopologyKind → ℕ → ℕ → Path) → Option TopologyError → Fault
placed path None = None
placed path (Some OutOfMemory) = None
placed path (Some (Wrong kind shard item)) = Some (Bad Topology (path_text (path kind shard item)) (detail_of kind) 0)

-- the node at the place stands in front of it too
abbrev pub stands_twice : List NodeSpec → ℕ → Bool
stands_twice nodes place =
    unwrap_or (option_map (λ node. not (is_new (ids nodes) place node.id)) (slice_get nodes place)) false

-- the nodes, and then the shards on them
abbrev pub cluster_fault : List NodeSpec → List ShardSpec → Fault
cluster_fault nodes shards =
    placed node_path (nodes_fault nodes) then placed shard_path (shards_fault (is_among (ids nodes)) shards)
