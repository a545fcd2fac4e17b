use Rattle.std.proofs.Common.{sym}
use Rattle.acc_topology.proofs.Rules.{in_set-below}
use Rattle.acc_topology.proofs.checks.named_electorate.Goals as goal

pub with-set-requires : goal.with-set-requires
with-set-requires c = in_set-below c.args.replicas _ c.ranges.replicas.fits (sym c.if-not-contains.ensures)
