use Rattle.acc_message.specs.NodeRules.{Recovers}
use Rattle.acc_durable_node.proofs.Nodes.{can_recover}
use Rattle.acc_durable_node.proofs.Weighed.{few_nodes, weighs}
use Rattle.acc_durable_node.proofs.actor.NodeActor.weigh_recover.Goals as goal

pub weigh_recover-requires-clause-node_in_range : goal.weigh_recover-requires-clause-node_in_range
weigh_recover-requires-clause-node_in_range g c =
    few_nodes g.D.Disk c.args.topology.now c.args.self.now c.in-Open.node c.in-Open.is c.requires.up c.requires.may.name c.requires.may.past c.args.self.now.named.number_to
    c.requires.may.stands

pub weigh_recover-requires-clause-low : goal.weigh_recover-requires-clause-low
weigh_recover-requires-clause-low g c =
    can_recover g.D.Disk c.args.topology.now c.args.self.now c.in-Open.node c.in-Open.is c.requires.up c.requires.may

pub returns : goal.returns
returns g c =
    weighs g.D.Disk c.args.topology.now c.args.self.now c.in-Open.node c.in-Open.is c.requires.up (Recovers c.args.id c.args.body.now) c.weigh_recover.result c.weigh_recover.ensures
