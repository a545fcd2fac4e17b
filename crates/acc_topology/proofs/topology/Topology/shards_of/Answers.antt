use Rattle.std.proofs.Common.{◌≡◌, take, subst, ◌∙◌, arith}
use Rattle.std.proofs.lemmas.List.{take_all}
use Rattle.acc_topology.specs.Sets.{IsSetOf}
use Rattle.acc_topology.specs.Keys.{shards_of}
use Rattle.acc_topology.proofs.Listed.{members-in_order}
use Rattle.acc_topology.proofs.topology.Topology.shards_of.Goals as goal

pub with-shards-requires : goal.with-shards-requires
with-shards-requires c = omega (arith, c.shard_of.ensures.exists.1, c.shard_of.ensures.valid.few_shards)

pub returns-clause-listed : goal.returns-clause-listed
returns-clause-listed c =
    let whole : take c.loop-key.key-index c.pairs-key-items.result.now ≡ c.pairs-key-items.result.now = take_all _ _ c.loop-key-test.false in
    let set : IsSetOf c.loop-key.shards (shards_of c.args.self.now c.args.footprint.now) =
    subst (λ items. IsSetOf c.loop-key.shards (shards_of c.args.self.now items)) (whole ∙ c.pairs-key-items.ensures.pairs) c.loop-key.invariant in
    members-in_order c.loop-key.shards _ set
