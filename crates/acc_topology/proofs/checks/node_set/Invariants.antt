-- The rest decides, and the set has the nodes so far.
use Rattle.std.proofs.Common.{◌≡◌, take, drop}
use Rattle.acc_base.specs.Faults.{each}
use Rattle.acc_topology.specs.Sets.{IsSetOf}
use Rattle.acc_topology.specs.Faults.{ids, node_fault}
use Rattle.acc_topology.proofs.checks.node_set.Given as goal

abbrev pub invariant-loop-place : goal.invariant-loop-place
invariant-loop-place l =
    (each (node_fault l.nodes) l.place (drop l.place l.nodes) ≡ each (node_fault l.nodes) 0 l.nodes)
    × IsSetOf l.set (take l.place (ids l.nodes))
