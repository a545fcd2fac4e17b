use Rattle.acc_topology.specs.Layout.{shard_at}
use Rattle.acc_topology.proofs.Counts.{may_be_fast-is}
use Rattle.acc_topology.proofs.laws.may_be_fast_with_the_silent.Goals as goal

pub returns : goal.returns
returns c = λ layout shard is has. may_be_fast-is (shard_at layout shard)
