use Rattle.std.proofs.Common.{◌<◌, ◌^◌, arith}
use Rattle.acc_topology.proofs.Listed.{IsSetOf-members}
use Rattle.acc_topology.proofs.topology.Topology.nodes.Goals as goal

pub returns-clause-set : goal.returns-clause-set
returns-clause-set c = let small : c.self.inside.nodes < 2 ^ 16 = omega arith in rw (← c.self.view_is) (IsSetOf-members c.self.inside.nodes small)
