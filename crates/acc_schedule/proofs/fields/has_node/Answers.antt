use Rattle.std.proofs.Common.{sym, ◌∙◌}
use Rattle.std.proofs.lemmas.Bool.{le-ltb}
use Rattle.acc_topology.proofs.Bits.{in_set_above}
use Rattle.acc_schedule.proofs.fields.has_node.Goals as goal

pub returns-else-number-lt16-clause-among : goal.returns-else-number-lt16-clause-among
returns-else-number-lt16-clause-among c = le-ltb _ _ c.if-number-lt16.false ∙ sym (in_set_above c.args.nodes c.args.number c.ranges.nodes.fits c.if-number-lt16.false)
