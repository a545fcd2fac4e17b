use Rattle.std.proofs.Common.{ℕ, ◌+◌, IsTrue, None, map, ap, sym, subst, ◌∙◌, rules}
use Rattle.std.proofs.lemmas.Fn.{always_returns_same}
use Rattle.acc_topology.specs.declared.shard.Shard.{Shard}
use Rattle.acc_topology.specs.Layout.{HasShard, ends_rise, shards_before}
use Rattle.acc_topology.specs.View.{shard_view}
use Rattle.acc_topology.proofs.Ends.{is_past, is_partitioned, partition_is, shard_of-holds}
use Rattle.acc_topology.proofs.topology.Topology.shard_of.Goals as goal

pub returns-clause-value : goal.returns-clause-value
returns-clause-value c =
    let bytes = c.args.key.now.key in
    let none : Shard = record { end = None; replicas = 0; electorate = 0 } in
    let rise : IsTrue (ends_rise (map shard_view c.deref.result.now)) = rw c.deref.ensures.value c.self.invariant.ends in
    let parts = c.partition_point-before.ensures.partitioned (is_past bytes) (always_returns_same _ _ _ (λ a r f called. search rules)) (is_partitioned bytes c.deref.result.now rise) in
    let before = partition_is bytes c.deref.result.now c.partition_point-before.result none rise c.partition_point-before.ensures.bound parts in
    rw (← c.self.view_is) (ap (λ (k : ℕ). k + 1) (before ∙ ap (λ shards. shards_before bytes (map shard_view shards)) c.deref.ensures.value))

pub returns-clause-exists : goal.returns-clause-exists
returns-clause-exists c =
    let bytes = c.args.key.now.key in
    let rise : IsTrue (ends_rise c.args.self.now.shards) = rw (← c.self.view_is) c.self.invariant.ends in
    let holds = shard_of-holds c.args.self.now bytes rise in
    subst (HasShard c.args.self.now) (sym (returns-clause-value c)) holds.exists
