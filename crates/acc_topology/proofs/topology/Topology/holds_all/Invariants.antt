-- The keys so far lie in the shard.
use Rattle.std.proofs.Common.{◌≡◌, ◌==◌, take, true}
use Rattle.std.specs.List.{list_all}
use Rattle.acc_topology.specs.Keys.{shard_of_key}
use Rattle.acc_topology.proofs.topology.Topology.holds_all.Given as goal

abbrev pub invariant-loop-key : goal.invariant-loop-key
invariant-loop-key l = list_all (λ item. shard_of_key l.self item.0 == l.shard) (take l.key-index l.key-items) ≡ true
