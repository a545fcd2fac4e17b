-- Each shard of the set so far has answered.
use Rattle.std.proofs.Common.{◌≡◌, ℕ, ◌<◌, true}
use Rattle.acc_topology.specs.Sets.{in_set}
use Rattle.acc_coord.proofs.reads.Reads.has_all.Given as goal

abbrev pub invariant-loop-shard : goal.invariant-loop-shard
invariant-loop-shard l = (s : ℕ) → s < l.shard → in_set l.shards s ≡ true → in_set l.self.heard s ≡ true
