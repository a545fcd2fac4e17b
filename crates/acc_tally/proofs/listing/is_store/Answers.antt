use Rattle.std.proofs.Common.{◌≡◌, ◌<◌, ◌^◌, Bool, ◌&&◌, sym, ◌∙◌, ap, arith}
use Rattle.acc_stamp.specs.Actor.{node_of, shard_of}
use Rattle.acc_topology.specs.Layout.{shard_at}
use Rattle.acc_topology.specs.Sets.{in_set, is_among}
use Rattle.acc_topology.proofs.Rules.{in_set-below}
use Rattle.acc_tally.proofs.Listed.{is_store-is}
use Rattle.acc_tally.proofs.listing.is_store.Goals as goal

pub returns-then-is_shard-clause-value : goal.returns-then-is_shard-clause-value
returns-then-is_shard-clause-value c = λ body e.
    let small : c.args.shards < 2 ^ 16 = c.ranges.shards.fits in
    let kept : Bool = is_among (shard_at c.args.topology.now (shard_of c.args.actor)).replicas (node_of c.args.actor) in
    c.contains.ensures ∙ c.replicas.ensures.set c.node.result
    ∙ ap (λ n. is_among (shard_at c.args.topology.now c.shard-shard.result).replicas n) c.node.ensures
    ∙ ap (λ s. is_among (shard_at c.args.topology.now s).replicas (node_of c.args.actor)) c.shard-shard.ensures
    ∙ sym (is_store-is c.args.topology.now body c.args.shards c.args.actor small e
    ∙ ap (λ s. in_set c.args.shards s && kept) (sym c.shard-shard.ensures)
    ∙ ap (λ b. b && kept) (sym (c.is_shard.ensures.value body e) ∙ c.if-is_shard.true))

pub returns-then-is_shard-clause-node : goal.returns-then-is_shard-clause-node
returns-then-is_shard-clause-node c = λ h.
    let number : c.node.result ≡ node_of c.args.actor = c.node.ensures in
    omega (arith, in_set-below c.replicas.result c.node.result c.replicas.type_inv (sym c.contains.ensures ∙ h))

pub returns-else-is_shard-clause-value : goal.returns-else-is_shard-clause-value
returns-else-is_shard-clause-value c = λ body e.
    let small : c.args.shards < 2 ^ 16 = c.ranges.shards.fits in
    let kept : Bool = is_among (shard_at c.args.topology.now (shard_of c.args.actor)).replicas (node_of c.args.actor) in
    c.if-is_shard.false
    ∙ sym (is_store-is c.args.topology.now body c.args.shards c.args.actor small e
    ∙ ap (λ s. in_set c.args.shards s && kept) (sym c.shard-shard.ensures)
    ∙ ap (λ b. b && kept) (sym (c.is_shard.ensures.value body e) ∙ c.if-is_shard.false))
