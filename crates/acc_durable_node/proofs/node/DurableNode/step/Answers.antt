use Rattle.acc_durable_node.proofs.Keeping.{message_ok}
use Rattle.acc_durable_node.proofs.node.DurableNode.step.Goals as goal

pub returns-clause-ok : goal.returns-clause-ok
returns-clause-ok g c = message_ok c.args.topology.now c.args.self.now c.step.new.self c.args.m.now c.step.result c.step.ensures.ok
