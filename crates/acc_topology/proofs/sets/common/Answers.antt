use Rattle.acc_topology.proofs.Bits.{ones-and}
use Rattle.acc_topology.proofs.sets.common.Goals as goal

pub returns : goal.returns
returns c = ones-and c.args.a c.args.b c.ranges.a.fits
