-- What was asked holds of each shard of the set so far.
use Rattle.std.proofs.Common.{◌≡◌, ℕ, ◌<◌, ◌≤◌, true}
use Rattle.std.specs.Prelude.{slice_index}
use Rattle.acc_topology.specs.Sets.{in_set}
use Rattle.acc_topology.specs.Layout.{shard_at}
use Rattle.acc_topology.specs.Quorums.{is_majority}
use Rattle.acc_tally.proofs.tally.Tally.majority_everywhere.Given as goal

abbrev pub invariant-loop-shard : goal.invariant-loop-shard
invariant-loop-shard l = (s : ℕ) → 1 ≤ s → s < l.shard → in_set l.shards s ≡ true → is_majority (shard_at l.topology s) (in_set (slice_index l.self.answered s)) ≡ true
