use Rattle.std.proofs.Common.{refl, sym, ◌∙◌, ap}
use Rattle.acc_stamp.specs.Actor.{shard_of}
use Rattle.acc_glance.proofs.StoreFacts.{at_there, is_down_there, none_there, left_there, not_member, store_up, was_visited}
use Rattle.acc_glance.proofs.stores.left_at.Goals as goal

pub returns-then-not-contains-clause-none : goal.returns-then-not-contains-clause-none
returns-then-not-contains-clause-none g c = λ none s stands. not_member c.args.replicas.nodes c.args.node _ c.if-not-contains.ensures

pub returns-then-is_one_of-clause-none : goal.returns-then-is_one_of-clause-none
returns-then-is_one_of-clause-none g c = λ none s stands. was_visited c.args.plan.now s c.args.key.now c.args.after c.args.visited.now c.args.replicas.nodes c.args.node c.if-is_one_of.ensures

pub returns-in-None-clause-none : goal.returns-in-None-clause-none
returns-in-None-clause-none g c = λ none s stands.
    let plan = c.args.plan.now in
    let key = c.args.key.now in
    let node = c.args.node in
    let shard = c.args.replicas.shard in
    let is = c.requires.replicas.shard in
    is_down_there plan s key c.args.after c.args.visited.now c.args.replicas.nodes node
    (none_there plan s key node shard c.actor.result is c.actor.ensures.number (c.in-None.ensures.none refl plan s stands))
    (store_up plan s key c.args.replicas.nodes node shard is c.requires.replicas.exists
    (ap shard_of (sym c.actor.ensures.number) ∙ c.actor.ensures.shard) c.requires.replicas.set c.if-not-contains.ensures)

pub returns-in-Some-clause-some : goal.returns-in-Some-clause-some
returns-in-Some-clause-some g c = λ s stands.
    let plan = c.args.plan.now in
    let key = c.args.key.now in
    let node = c.args.node in
    let shard = c.args.replicas.shard in
    let is = c.requires.replicas.shard in
    let shown = c.in-Some.ensures.some plan s stands in
    let at = at_there plan s key node shard c.actor.result c.in-Some.store.now is c.actor.ensures.number c.actor.ensures.shard shown.0 shown.1 in (
      record {
        left = left_there plan s key c.args.after c.args.visited.now c.args.replicas.nodes node c.requires.after c.if-is_one_of.ensures at.1;
        stands = at.0;
      },
      sym c.if-not-contains.ensures,
    )

pub actor-requires-clause-shard_in_range : goal.actor-requires-clause-shard_in_range
actor-requires-clause-shard_in_range g c = c.requires.replicas.low
