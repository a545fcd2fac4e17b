use Rattle.acc_topology.proofs.Counts.{shard_of_layout, fast_lost-is}
use Rattle.acc_topology.proofs.laws.lost_where_unchanged_are_too_few.Goals as goal

pub returns : goal.returns
returns c = λ layout shard is has. fast_lost-is layout.nodes _ (shard_of_layout layout shard is has)
