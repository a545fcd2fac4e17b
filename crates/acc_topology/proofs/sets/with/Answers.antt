use Rattle.acc_topology.proofs.Bits.{in_set-with}
use Rattle.acc_topology.proofs.sets.with.Goals as goal

pub returns : goal.returns
returns c = λ n. in_set-with c.args.set c.args.number n c.requires
