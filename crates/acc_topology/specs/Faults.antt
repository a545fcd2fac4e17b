-- What is wrong with the nodes and shards that a cluster is given: the first rule that they break.
use Rattle.std.specs.Prelude.{◌≡◌, ℕ, zero, suc, ◌+◌, ◌/◌, ◌==◌, nat_lt, nat_le, Bool, not, ◌&&◌, List, length, take, map, slice_get, Option, Some, None, unwrap_or, Result, Ok, Err}
use Rattle.std.specs.Option.{option_and_then}
use Rattle.acc_base.specs.Faults.{◌then◌, must, each}
use Rattle.acc_topology.specs.declared.error.TopologyError.{TopologyError}
use Rattle.acc_topology.specs.declared.error.TopologyError.TheVariants.{Wrong, OutOfMemory}
use Rattle.acc_topology.specs.declared.error.TopologyKind.TheVariants.{NoNode, NoShard, Order, Replicas, Twice, UnknownNode, Electorate}
use Rattle.acc_topology.specs.declared.given.NodeSpec.{NodeSpec}
use Rattle.acc_topology.specs.declared.given.ShardSpec.{ShardSpec}
use Rattle.acc_topology.specs.Sets.{is_among, in_order}
use Rattle.acc_topology.specs.Layout.{Layout, Shard, bytes_lt, is_replica_count}

abbrev pub Fault : Type 0
Fault = Option TopologyError

-- the number at this place does not stand before it
abbrev pub is_new : List ℕ → ℕ → ℕ → Bool
is_new ns place n = not (is_among (take place ns) n)

-- ---- nodes

abbrev pub ids : List NodeSpec → List ℕ
ids nodes = map (λ n. n.id) nodes

-- a node stands once
abbrev pub node_fault : List NodeSpec → ℕ → NodeSpec → Fault
node_fault nodes place node = must (is_new (ids nodes) place node.id) (Wrong Twice 0 place)

abbrev pub nodes_fault : List NodeSpec → Fault
nodes_fault nodes =
    must (nat_lt 0 (length nodes)) (Wrong NoNode 0 0) then each (node_fault nodes) 0 nodes

-- ---- shards

-- the last shard has no end; every other one has one, which is greater than the end before
abbrev pub ends_well : Bool → Option (List ℕ) → Option (List ℕ) → Bool
ends_well is_last before None = is_last
ends_well is_last None (Some end) = not is_last
ends_well is_last (Some before) (Some end) = not is_last && bytes_lt before end

-- the end of the shard before this place
abbrev pub end_before : List ShardSpec → ℕ → Option (List ℕ)
end_before shards zero = None
end_before shards (suc place) = option_and_then (λ s. s.end) (slice_get shards place)

-- a replica is a node, and stands once
abbrev pub replica_fault : (ℕ → Bool) → ℕ → List ℕ → ℕ → ℕ → Fault
replica_fault is_node shard replicas item n =
    must (is_node n) (Wrong UnknownNode shard item) then must (is_new replicas item n) (Wrong Twice shard item)

abbrev pub replicas_fault : (ℕ → Bool) → ℕ → List ℕ → Fault
replicas_fault is_node shard replicas = each (replica_fault is_node shard replicas) 0 replicas

-- an electorate has a majority of the replicas or more
abbrev pub least_electors : ShardSpec → ℕ
least_electors s = length s.replicas / 2 + 1

-- an elector is a replica, and stands once
abbrev pub elector_fault : (ℕ → Bool) → ℕ → List ℕ → ℕ → ℕ → Fault
elector_fault is_replica shard electorate item n =
    must (is_replica n && is_new electorate item n) (Wrong Electorate shard 0)

abbrev pub electorate_fault : (ℕ → Bool) → ℕ → ℕ → Option (List ℕ) → Fault
electorate_fault is_replica least shard None = None
electorate_fault is_replica least shard (Some electorate) =
    must (nat_le least (length electorate)) (Wrong Electorate shard 0)
    then each (elector_fault is_replica shard electorate) 0 electorate

abbrev pub replica_faults : (ℕ → Bool) → ℕ → ShardSpec → Fault
replica_faults is_node place s =
    must (is_replica_count (length s.replicas)) (Wrong Replicas place 0)
    then replicas_fault is_node place s.replicas
    then electorate_fault (is_among s.replicas) (least_electors s) place s.electorate

abbrev pub shard_fault : (ℕ → Bool) → List ShardSpec → ℕ → ShardSpec → Fault
shard_fault is_node shards place s =
    must (ends_well (place + 1 == length shards) (end_before shards place) s.end) (Wrong Order place 0)
    then replica_faults is_node place s

abbrev pub shards_fault : (ℕ → Bool) → List ShardSpec → Fault
shards_fault is_node shards =
    must (nat_lt 0 (length shards)) (Wrong NoShard 0 0) then each (shard_fault is_node shards) 0 shards

-- ---- the whole

abbrev pub fault_of : List NodeSpec → List ShardSpec → Fault
fault_of nodes shards = nodes_fault nodes then shards_fault (is_among (ids nodes)) shards

-- the electorate that a shard names, and all its replicas where it names none
abbrev pub electors : ShardSpec → List ℕ
electors s = unwrap_or s.electorate s.replicas

abbrev pub given_shard : ShardSpec → Shard
given_shard s = record { end = s.end; replicas = in_order s.replicas; electorate = in_order (electors s) }

abbrev pub given_layout : List NodeSpec → List ShardSpec → Layout
given_layout nodes shards = record { nodes = in_order (ids nodes); shards = map given_shard shards }

-- the error is this fault, unless memory ran out
abbrev pub IsFault : Fault → TopologyError → Type 0
IsFault fault OutOfMemory = Unit {0}
IsFault fault (Wrong kind shard item) = fault ≡ Some (Wrong kind shard item)

-- what a check answers: a value with P where there is no fault, else the first fault
abbrev pub Finds : {X : Type 0} → Fault → (X → Type 0) → Result X TopologyError → Type 0
Finds fault P (Ok x) = (fault ≡ None) × P x
Finds fault P (Err error) = IsFault fault error
