-- What was asked holds of each shard of the set so far.
use Rattle.std.proofs.Common.{◌≡◌, ℕ, ◌<◌, ◌≤◌, true, false}
use Rattle.std.specs.Prelude.{slice_index}
use Rattle.acc_topology.specs.Sets.{in_set}
use Rattle.acc_topology.specs.Layout.{shard_at}
use Rattle.acc_topology.specs.Quorums.{fast_lost}
use Rattle.acc_tally.proofs.tally.Tally.fast_lost.Given as goal

abbrev pub invariant-loop-shard : goal.invariant-loop-shard
invariant-loop-shard l = (s : ℕ) → 1 ≤ s → s < l.shard → in_set l.shards s ≡ true → fast_lost (shard_at l.topology s) (in_set (slice_index l.self.changed s)) ≡ false
