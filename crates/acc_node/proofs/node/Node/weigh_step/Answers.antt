use Rattle.std.proofs.Common.{ap, sym, ◌∙◌}
use Rattle.acc_node.proofs.Taking.{not_inform}
use Rattle.acc_node.proofs.node.Node.weigh_step.Goals as goal

pub weigh_attempt-requires-clause-other : goal.weigh_attempt-requires-clause-other
weigh_attempt-requires-clause-other c = not_inform c.args.m.now c.in_default.not-Inform
