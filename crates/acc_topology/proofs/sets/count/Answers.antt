use Rattle.std.proofs.Common.{arith}
use Rattle.acc_topology.proofs.Bits.{ones-length, length-members}
use Rattle.acc_topology.proofs.sets.count.Goals as goal

pub returns-clause-value : goal.returns-clause-value
returns-clause-value c = ones-length c.args.set c.ranges.set.fits

pub returns-clause-few : goal.returns-clause-few
returns-clause-few c = omega (arith, ones-length c.args.set c.ranges.set.fits, length-members c.args.set)
