use Rattle.acc_topology.proofs.Counts.{shard_of_layout, fast_above_majority, fast_half, fast_twice, fast_possible}
use Rattle.acc_topology.proofs.laws.fast_sizes.Goals as goal

pub returns : goal.returns
returns c = record {
  majority = λ layout shard is has. fast_above_majority layout.nodes _ (shard_of_layout layout shard is has);
  half = λ layout shard is has. fast_half layout.nodes _ (shard_of_layout layout shard is has);
  above_failing = λ layout shard is has. fast_twice layout.nodes _ (shard_of_layout layout shard is has);
  possible = λ layout shard is has. fast_possible layout.nodes _ (shard_of_layout layout shard is has);
}
