use Rattle.std.proofs.Common.{sym, ◌∙◌, arith}
use Rattle.acc_topology.proofs.Rules.{in_set-below}
use Rattle.acc_glance.proofs.NodeSets.{joined, joined_not}
use Rattle.acc_glance.proofs.nodes.joined.Goals as goal

pub returns-then-member : goal.returns-then-member
returns-then-member c = λ n. joined c.args.set c.with.result c.args.among c.args.node n (sym c.if-member.true ∙ c.contains-member.ensures) (c.with.ensures n)

pub with-requires : goal.with-requires
with-requires c = in_set-below c.args.among c.args.node (omega (arith, c.ranges.among)) (sym c.contains-member.ensures ∙ c.if-member.true)

pub returns : goal.returns
returns c = λ n. joined_not c.args.set c.args.among c.args.node n (sym c.if-member.false ∙ c.contains-member.ensures)
