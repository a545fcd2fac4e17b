use Rattle.acc_topology.proofs.Counts.{shard_of_layout, majorities_meet}
use Rattle.acc_topology.proofs.laws.majorities_meet.Goals as goal

pub returns : goal.returns
returns c = λ layout shard is has. majorities_meet layout.nodes _ (shard_of_layout layout shard is has)
