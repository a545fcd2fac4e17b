-- The rest decides, the shards so far are checked, and the end of the last of them is at hand.
use Rattle.std.proofs.Common.{◌≡◌, take, drop, map}
use Rattle.std.specs.Option.{option_copied}
use Rattle.acc_base.specs.Faults.{each}
use Rattle.acc_topology.specs.Sets.{in_set}
use Rattle.acc_topology.specs.Faults.{shard_fault, given_shard, end_before}
use Rattle.acc_topology.specs.View.{shard_view}
use Rattle.acc_topology.proofs.checks.checked_shards.Given as goal

abbrev pub invariant-loop-place : goal.invariant-loop-place
invariant-loop-place l =
    (each (shard_fault (in_set l.nodes) l.shards) l.place (drop l.place l.shards) ≡ each (shard_fault (in_set l.nodes) l.shards) 0 l.shards)
    × (map shard_view l.checked.items ≡ map given_shard (take l.place l.shards))
    × (option_copied l.before ≡ end_before l.shards l.place)
