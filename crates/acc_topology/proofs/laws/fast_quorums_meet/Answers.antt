use Rattle.acc_topology.proofs.Counts.{shard_of_layout, fast_meets_fast}
use Rattle.acc_topology.proofs.laws.fast_quorums_meet.Goals as goal

pub returns : goal.returns
returns c = λ layout shard is has. fast_meets_fast layout.nodes _ (shard_of_layout layout shard is has)
