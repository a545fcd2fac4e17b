use Rattle.acc_message.specs.NodeRules.{Begins}
use Rattle.acc_durable_node.proofs.Nodes.{can_begin}
use Rattle.acc_durable_node.proofs.Weighed.{few_nodes, weighs}
use Rattle.acc_durable_node.proofs.actor.NodeActor.weigh_begin.Goals as goal

pub weigh_begin-requires-clause-not_begun : goal.weigh_begin-requires-clause-not_begun
weigh_begin-requires-clause-not_begun g c =
    (can_begin g.D.Disk c.args.topology.now c.args.self.now c.in-Open.node c.in-Open.is c.requires.up c.args.txn c.requires.may).fresh

pub weigh_begin-requires-clause-node_in_range : goal.weigh_begin-requires-clause-node_in_range
weigh_begin-requires-clause-node_in_range g c =
    few_nodes g.D.Disk c.args.topology.now c.args.self.now c.in-Open.node c.in-Open.is c.requires.up c.requires.may.name c.requires.may.past c.args.self.now.named.number_to
    c.requires.may.stands

pub weigh_begin-requires-clause-low : goal.weigh_begin-requires-clause-low
weigh_begin-requires-clause-low g c =
    (can_begin g.D.Disk c.args.topology.now c.args.self.now c.in-Open.node c.in-Open.is c.requires.up c.args.txn c.requires.may).low

pub returns : goal.returns
returns g c =
    weighs g.D.Disk c.args.topology.now c.args.self.now c.in-Open.node c.in-Open.is c.requires.up (Begins c.args.txn c.args.body.now) c.weigh_begin.result c.weigh_begin.ensures
