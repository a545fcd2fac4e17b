use Rattle.acc_durable_node.proofs.Nodes.{tells_id}
use Rattle.acc_durable_node.proofs.actor.NodeActor.id_of.Goals as goal

pub returns : goal.returns
returns g c = λ layout. tells_id g.D.Disk layout c.args.self.now c.in-Open.node c.in-Open.is c.requires.up c.args.txn c.id_of.result (c.id_of.ensures layout)
