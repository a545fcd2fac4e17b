use Rattle.acc_durable_node.proofs.Nodes.{slow_all, refused_all}
use Rattle.acc_durable_node.proofs.actor.NodeActor.slow.Goals as goal

pub returns-clause-ok : goal.returns-clause-ok
returns-clause-ok g c =
    slow_all g.D.Disk c.args.topology.now c.args.self.now c.in-Open.node c.slow.new.self c.in-Open.is c.requires.up c.slow.ensures.same c.args.txn c.slow.result c.slow.ensures.ok

pub returns-clause-refused : goal.returns-clause-refused
returns-clause-refused g c =
    refused_all g.D.Disk c.args.topology.now c.args.self.now c.in-Open.node c.in-Open.is c.requires.up c.args.txn c.slow.result c.slow.ensures.refused
