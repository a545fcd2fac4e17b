use Rattle.std.proofs.lemmas.Bool.{eqb-true}
use Rattle.acc_glance.proofs.NodeSets.{none_from}
use Rattle.acc_glance.proofs.nodes.has_none_from.Goals as goal

pub returns : goal.returns
returns c = λ is n low. none_from c.args.set c.args.node n low (eqb-true _ _ is)
