-- The rest decides, and the set has the electors so far.
use Rattle.std.proofs.Common.{◌≡◌, take, drop}
use Rattle.acc_base.specs.Faults.{each}
use Rattle.acc_topology.specs.Sets.{in_set, IsSetOf}
use Rattle.acc_topology.specs.Faults.{elector_fault}
use Rattle.acc_topology.proofs.checks.named_electorate.Given as goal

abbrev pub invariant-loop-elector : goal.invariant-loop-elector
invariant-loop-elector l =
    (each (elector_fault (in_set l.replicas) l.place l.electorate) l.elector-index (drop l.elector-index l.electorate)
    ≡ each (elector_fault (in_set l.replicas) l.place l.electorate) 0 l.electorate)
    × IsSetOf l.set (take l.elector-index l.electorate)
