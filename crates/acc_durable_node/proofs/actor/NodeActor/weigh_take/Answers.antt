use Rattle.acc_message.specs.NodeRules.{Takes}
use Rattle.acc_durable_node.proofs.Weighed.{sends_short, weighs}
use Rattle.acc_durable_node.proofs.actor.NodeActor.weigh_take.Goals as goal

pub weigh_step-requires : goal.weigh_step-requires
weigh_step-requires g c =
    sends_short g.D.Disk c.args.topology.now c.args.self.now c.in-Open.node c.in-Open.is c.requires.up c.args.m.now c.requires.may

pub returns : goal.returns
returns g c =
    weighs g.D.Disk c.args.topology.now c.args.self.now c.in-Open.node c.in-Open.is c.requires.up (Takes c.args.m.now) c.weigh_step.result c.weigh_step.ensures
