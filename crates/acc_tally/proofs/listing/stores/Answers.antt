use Rattle.std.proofs.Common.{◌++◌, map, sym, ◌∙◌, ap, arith}
use Rattle.std.specs.List.{flat_map}
use Rattle.acc_stamp.specs.Actor.{actor_of}
use Rattle.acc_message.specs.Shares.{stores_of_shard}
use Rattle.acc_tally.proofs.Listed.{below-without, below-all, more_shards}
use Rattle.acc_tally.proofs.listing.stores.Goals as goal
use Rattle.acc_tally.proofs.listing.stores.Goals.{then-is_shard+in_ok-push_stores, else-is_shard}

pub loop-shard-preserved : goal.loop-shard-preserved
loop-shard-preserved c = λ body e.
    elim c.if-is_shard.branch [
      | then-is_shard+in_ok-push_stores w ↦
          w.stores-is ∙ w.in_ok-push_stores.ensures
          ∙ ap (λ nodes. c.loop-shard.stores ++ map (λ node. actor_of node c.loop-shard.shard) nodes) w.replicas.ensures.listed
          ∙ more_shards (stores_of_shard c.args.topology.now) c.loop-shard.stores c.args.shards c.loop-shard.shard
          (sym (c.is_shard.ensures.value body e) ∙ w.if-is_shard.true) (c.loop-shard.invariant body e)
      | else-is_shard w ↦
          w.stores-is ∙ c.loop-shard.invariant body e
          ∙ ap (flat_map (stores_of_shard c.args.topology.now))
          (sym (below-without c.args.shards c.loop-shard.shard (sym (c.is_shard.ensures.value body e) ∙ w.if-is_shard.false)))
    ]

pub returns : goal.returns
returns c = λ body e.
    c.loop-shard.invariant body e
    ∙ ap (flat_map (stores_of_shard c.args.topology.now)) (below-all c.args.shards c.loop-shard.shard (omega arith) ∙ e)
