use Rattle.std.proofs.Common.{◌<◌, ◌^◌, arith}
use Rattle.acc_topology.proofs.Listed.{IsSetOf-members}
use Rattle.acc_topology.proofs.topology.Topology.replicas.Goals as goal

pub returns-clause-set : goal.returns-clause-set
returns-clause-set c = let small : c.shard.result.now.replicas < 2 ^ 16 = omega arith in rw (← c.shard.ensures.value) (IsSetOf-members c.shard.result.now.replicas small)
