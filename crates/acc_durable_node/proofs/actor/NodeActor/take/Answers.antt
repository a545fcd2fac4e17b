use Rattle.acc_durable_node.proofs.Nodes.{take_all}
use Rattle.acc_durable_node.proofs.actor.NodeActor.take.Goals as goal

pub returns-clause-ok : goal.returns-clause-ok
returns-clause-ok g c =
    take_all g.D.Disk c.args.topology.now c.args.self.now c.in-Open.node c.step.new.self c.in-Open.is c.requires.up c.step.ensures.same c.args.m.now c.step.result c.step.ensures.ok
