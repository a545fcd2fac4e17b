use Rattle.std.proofs.Common.{sym, ◌∙◌}
use Rattle.acc_payloads.proofs.Nodes.{draw_may}
use Rattle.acc_payloads.proofs.node.NodeTold.may_draw.Goals as goal

pub returns-then-is_in_range : goal.returns-then-is_in_range
returns-then-is_in_range c = λ node start items told.
    draw_may node start items c.args.self.now c.args.draw.now _ told (sym c.is_in_range.ensures ∙ c.if-is_in_range.true) (c.begins_again-begins_again.ensures node start items told)
