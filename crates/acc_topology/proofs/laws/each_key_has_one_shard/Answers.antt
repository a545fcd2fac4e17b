use Rattle.acc_topology.proofs.Ends.{shard_of-holds, shard_of-only}
use Rattle.acc_topology.proofs.laws.each_key_has_one_shard.Goals as goal

pub returns : goal.returns
returns c = record {
  found = λ layout bytes is. shard_of-holds layout bytes is.ends;
  only = λ layout bytes shard is. shard_of-only layout bytes shard is.ends;
}
