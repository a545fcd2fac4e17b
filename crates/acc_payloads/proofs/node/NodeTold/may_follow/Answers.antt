use Rattle.std.proofs.Common.{sym, ap, ◌∙◌}
use Rattle.acc_payloads.specs.Node.{node_may}
use Rattle.acc_payloads.proofs.node.NodeTold.may_follow.Goals as goal

pub returns-in-Draws : goal.returns-in-Draws
returns-in-Draws c = λ node start items told. c.may_draw.ensures node start items told ∙ ap (node_may c.args.version start items) (sym c.in-Draws.is)
