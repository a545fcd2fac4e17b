use Rattle.std.proofs.Common.{sym, ◌∙◌}
use Rattle.std.proofs.lemmas.Bool.{le-ltb}
use Rattle.acc_topology.proofs.Bits.{in_set_above}
use Rattle.acc_topology.proofs.sets.contains.Goals as goal

pub returns-else-number-lt-BITS : goal.returns-else-number-lt-BITS
returns-else-number-lt-BITS c = le-ltb _ _ c.if-number-lt-BITS.false ∙ sym (in_set_above c.args.set c.args.number c.ranges.set.fits c.if-number-lt-BITS.false)
