use Rattle.acc_topology.proofs.Counts.{shard_of_layout, fast_meets_majority}
use Rattle.acc_topology.proofs.laws.fast_quorum_meets_majority.Goals as goal

pub returns : goal.returns
returns c = λ layout shard is has. fast_meets_majority layout.nodes _ (shard_of_layout layout shard is has)
