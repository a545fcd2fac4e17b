-- The set has the shards of the keys so far.
use Rattle.std.proofs.Common.{take}
use Rattle.acc_topology.specs.Sets.{IsSetOf}
use Rattle.acc_topology.specs.Keys.{shards_of}
use Rattle.acc_topology.proofs.topology.Topology.shards_of.Given as goal

abbrev pub invariant-loop-key : goal.invariant-loop-key
invariant-loop-key l = IsSetOf l.shards (shards_of l.self (take l.key-index l.key-items))
