use Rattle.acc_node.proofs.Taking.{has_heard_at}
use Rattle.acc_node.proofs.node.Node.hear.Goals as goal

pub returns-clause-ok : goal.returns-clause-ok
returns-clause-ok c =
    has_heard_at c.args.topology.now c.args.self.now c.hear_at.new.self c.end_attempt.new.self c.close_client.new.self c.args.m.now c.in_ok-heard.heard
    c.id-id.result c.contains_key-is_open.result c.id-id.ensures c.contains_key-is_open.ensures c.in_ok-heard.ensures.ok c.end_attempt.ensures c.close_client.ensures
