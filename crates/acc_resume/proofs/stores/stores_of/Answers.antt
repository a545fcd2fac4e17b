-- The stores of one shard more.
use Rattle.std.proofs.Common.{◌+◌, ◌<◌, ◌++◌, List, length, map, sym, ◌∙◌, ap, arith}
use Rattle.acc_stamp.specs.declared.actors.Actor.{Actor}
use Rattle.acc_stamp.specs.Actor.{actor_of}
use Rattle.acc_topology.specs.Layout.{shard_at}
use Rattle.acc_schedule.specs.Content.{Content}
use Rattle.acc_run.proofs.Numbers.{shard_more}
use Rattle.acc_resume.proofs.stores.stores_of.Goals as goal

pub loop-place-preserved : goal.loop-place-preserved
loop-place-preserved c =
    let l = c.loop-place.invariant in
    let e = c.in_ok-push_stores.ensures in
    let layout = c.args.plan.now.topology in
    let many = c.shards-place-end.ensures.value ∙ ap (λ (p : Content). length p.topology.shards) c.plan.view_is in
    let within : c.loop-place.place < length layout.shards = omega (arith, c.loop-place-test.true, many) in
    record {
      names_are =
          e.actors ∙ ap (λ (before : List Actor). before ++ map (λ node. actor_of node (c.loop-place.place + 1)) (shard_at layout (c.loop-place.place + 1)).replicas) l.names_are
          ∙ sym (shard_more layout c.loop-place.place within);
      each = e.each;
    }
