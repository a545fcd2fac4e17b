use Rattle.acc_topology.proofs.Counts.{shard_of_layout, fast_size_in}
use Rattle.acc_topology.proofs.laws.fast_sizes_by_electorate.Goals as goal

pub returns : goal.returns
returns c = record {
  one = λ layout shard is has. fast_size_in layout.nodes _ 1 (shard_of_layout layout shard is has);
  three = λ layout shard is has. fast_size_in layout.nodes _ 3 (shard_of_layout layout shard is has);
  five = λ layout shard is has. fast_size_in layout.nodes _ 5 (shard_of_layout layout shard is has);
  seven = λ layout shard is has. fast_size_in layout.nodes _ 7 (shard_of_layout layout shard is has);
}
