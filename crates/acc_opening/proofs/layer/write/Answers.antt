use Rattle.std.proofs.Common.{◌≡◌, ◌==◌, cond, ap, ◌∙◌}
use Rattle.acc_topology.specs.Keys.{shard_of_key}
use Rattle.acc_value.specs.Pairs.{put}
use Rattle.acc_opening.proofs.LayerFacts.{left_step}
use Rattle.acc_opening.proofs.layer.write.Goals as goal

pub loop-key-preserved : goal.loop-key-preserved
loop-key-preserved c =
    left_step c.args.topology.now c.args.shard c.args.writes.now c.pairs-pairs.result.now c.loop-key.writes c.write_one.new.writes c.loop-key.key-index c.loop-key-item.result
    c.loop-key-test.true c.loop-key-item.is c.in_ok-write_one.ensures c.loop-key.invariant
