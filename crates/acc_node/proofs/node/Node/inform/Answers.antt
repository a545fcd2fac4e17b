use Rattle.acc_node.proofs.Taking.{has_informed}
use Rattle.acc_node.proofs.node.Node.inform.Goals as goal

pub returns-clause-ok : goal.returns-clause-ok
returns-clause-ok c =
    has_informed c.args.self.now c.close_client.new.self c.args.id c.args.reply.now _ _ c.contains_key-is_open.result c.contains_key-is_open.ensures c.in_ok-notes.ensures c.new-out.ensures c.close_client.ensures
