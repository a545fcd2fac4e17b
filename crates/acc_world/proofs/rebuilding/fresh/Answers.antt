use Rattle.acc_world.proofs.Known.{number_from, number_to, start_to, fresh_node, kind_node, kind_store}
use Rattle.acc_world.proofs.rebuilding.fresh.Goals as goal

pub new-requires-clause-number_from : goal.new-requires-clause-number_from
new-requires-clause-number_from c = number_from c.args.setup.now c.args.actor c.requires (kind_node c.args.actor c.shard.result c.shard.ensures c.if-shard-eq0.true) c.node-number.result c.node-number.ensures

pub new-requires-clause-number_to : goal.new-requires-clause-number_to
new-requires-clause-number_to c = number_to c.args.setup.now c.args.actor c.requires (kind_node c.args.actor c.shard.result c.shard.ensures c.if-shard-eq0.true) c.node-number.result c.node-number.ensures

pub new-requires-clause-start_in_range : goal.new-requires-clause-start_in_range
new-requires-clause-start_in_range c =
    start_to c.args.setup.now c.args.actor c.requires (kind_node c.args.actor c.shard.result c.shard.ensures c.if-shard-eq0.true) c.node-number.result c.start_of.result c.node-number.ensures c.start_of.ensures

pub returns-then-shard-eq0 : goal.returns-then-shard-eq0
returns-then-shard-eq0 c =
    fresh_node c.args.setup.now c.args.actor c.requires (kind_node c.args.actor c.shard.result c.shard.ensures c.if-shard-eq0.true) c.node-number.result c.start_of.result c.new.result c.node-number.ensures c.start_of.ensures c.new.ensures

pub returns-else-shard-eq0 : goal.returns-else-shard-eq0
returns-else-shard-eq0 c =
    record {
      kind = kind_store c.args.actor c.shard.result c.shard.ensures c.if-shard-eq0.false;
      actor = c.new-else-shard-eq0.ensures.actor;
      stands = c.new-else-shard-eq0.ensures.stands c.args.setup.now.topology;
    }
