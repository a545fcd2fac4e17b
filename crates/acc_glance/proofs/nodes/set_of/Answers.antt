use Rattle.std.proofs.Common.{◌&&◌, ◌∙◌, ap}
use Rattle.std.proofs.lemmas.List.{take_all}
use Rattle.acc_topology.specs.Sets.{in_set, is_among}
use Rattle.acc_glance.proofs.NodeSets.{one_more}
use Rattle.acc_glance.proofs.nodes.set_of.Goals as goal

pub loop-node-preserved : goal.loop-node-preserved
loop-node-preserved c = λ n.
    one_more c.args.among c.loop-node.set c.joined-set.result n c.loop-node.node-index 0 c.args.nodes.now c.loop-node-test.true (c.loop-node.invariant n) (c.joined-set.ensures n)

pub returns : goal.returns
returns c = λ n.
    c.loop-node.invariant n ∙ ap (λ nodes. in_set c.args.among n && is_among nodes n) (take_all c.loop-node.node-index c.args.nodes.now c.loop-node-test.false)
