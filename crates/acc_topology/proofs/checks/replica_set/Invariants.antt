-- The rest decides, and the set has the replicas so far.
use Rattle.std.proofs.Common.{◌≡◌, take, drop}
use Rattle.acc_base.specs.Faults.{each}
use Rattle.acc_topology.specs.Sets.{in_set, IsSetOf}
use Rattle.acc_topology.specs.Faults.{replica_fault, replicas_fault}
use Rattle.acc_topology.proofs.checks.replica_set.Given as goal

abbrev pub invariant-loop-item : goal.invariant-loop-item
invariant-loop-item l =
    (each (replica_fault (in_set l.nodes) l.shard l.replicas) l.item (drop l.item l.replicas) ≡ replicas_fault (in_set l.nodes) l.shard l.replicas)
    × IsSetOf l.set (take l.item l.replicas)
