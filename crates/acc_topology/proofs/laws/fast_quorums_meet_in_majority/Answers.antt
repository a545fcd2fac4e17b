use Rattle.acc_topology.proofs.Counts.{shard_of_layout, fast_and_majority_meet}
use Rattle.acc_topology.proofs.laws.fast_quorums_meet_in_majority.Goals as goal

pub returns : goal.returns
returns c = λ layout shard is has. fast_and_majority_meet layout.nodes _ (shard_of_layout layout shard is has)
