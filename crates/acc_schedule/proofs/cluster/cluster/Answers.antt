use Rattle.acc_topology.specs.Faults.{fault_of}
use Rattle.acc_schedule.proofs.ClusterFacts.{answered, none_blamed, placed_at_nodes, placed_at_shards}
use Rattle.acc_schedule.proofs.cluster.cluster.Goals as goal

pub returns-in-Ok : goal.returns-in-Ok
returns-in-Ok c = (none_blamed c.args.nodes.now c.args.shards.now c.in-Ok.ensures.answer.0, c.in-Ok.ensures.answer.1)

pub returns-then-are_at_fault : goal.returns-then-are_at_fault
returns-then-are_at_fault c =
    placed_at_nodes c.args.nodes.now c.args.shards.now c.in-Err-Wrong.kind c.in-Err-Wrong.shard c.in-Err-Wrong.item _
    (answered (fault_of c.args.nodes.now c.args.shards.now) c.in-Err-Wrong.field-0 _ _ _ c.in-Err-Wrong.ensures.answer c.in-Err-Wrong.field-0-is) c.if-are_at_fault.ensures c.at_nodes.ensures

pub returns-else-are_at_fault : goal.returns-else-are_at_fault
returns-else-are_at_fault c =
    placed_at_shards c.args.nodes.now c.args.shards.now c.in-Err-Wrong.kind c.in-Err-Wrong.shard c.in-Err-Wrong.item _
    (answered (fault_of c.args.nodes.now c.args.shards.now) c.in-Err-Wrong.field-0 _ _ _ c.in-Err-Wrong.ensures.answer c.in-Err-Wrong.field-0-is) c.if-are_at_fault.ensures c.at_shards.ensures
