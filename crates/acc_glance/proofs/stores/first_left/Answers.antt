use Rattle.std.proofs.Common.{refl, ◌+◌, arith}
use Rattle.acc_schedule_runs.specs.Schedules.{cluster_of}
use Rattle.acc_glance.specs.Stages.{is_left}
use Rattle.acc_glance.proofs.Lefts.{none_more}
use Rattle.acc_glance.proofs.StoreFacts.{first_at, none_at, none_further, none_up_to}
use Rattle.acc_glance.proofs.stores.first_left.Goals as goal

pub returns-then-after-ge15-clause-none : goal.returns-then-after-ge15-clause-none
returns-then-after-ge15-clause-none g c = λ none s stands.
    let plan = c.args.plan.now in
    let key = c.args.key.now in
    none_at plan s key c.args.after c.args.visited.now c.args.replicas.nodes 16 c.requires.replicas.listed refl
    (none_up_to plan s key c.args.after c.args.visited.now c.args.replicas.nodes 16 (omega (arith, c.if-after-ge15.true)))

pub loop-node-init : goal.loop-node-init
loop-node-init g c =
    record {
      above = omega arith;
      none = λ s stands.
          none_up_to c.args.plan.now s c.args.key.now c.args.after c.args.visited.now c.args.replicas.nodes (c.args.after + 1) (omega arith);
    }

pub loop-node-preserved : goal.loop-node-preserved
loop-node-preserved g c =
    record {
      above = omega (arith, c.loop-node.invariant.above);
      none = λ s stands.
          none_more (is_left (cluster_of c.args.plan.now) s c.args.key.now c.args.after c.args.visited.now) c.args.replicas.nodes c.loop-node.node
          (c.loop-node.invariant.none s stands) (c.in_default.ensures.none refl s stands);
    }

pub returns-clause-none : goal.returns-clause-none
returns-clause-none g c = λ none s stands.
    none_at c.args.plan.now s c.args.key.now c.args.after c.args.visited.now c.args.replicas.nodes c.loop-node.node c.requires.replicas.listed
    (omega (arith, c.loop-node-test.false, c.loop-node.auto.node-end)) (c.loop-node.invariant.none s stands)

pub returns-then-has_none_from-clause-none : goal.returns-then-has_none_from-clause-none
returns-then-has_none_from-clause-none g c = λ none s stands.
    let plan = c.args.plan.now in
    let key = c.args.key.now in
    none_at plan s key c.args.after c.args.visited.now c.args.replicas.nodes 16 c.requires.replicas.listed refl
    (none_further plan s key c.args.after c.args.visited.now c.args.replicas.nodes c.loop-node.node (omega (arith, c.loop-node-test.true))
    (c.if-has_none_from.ensures refl) (c.loop-node.invariant.none s stands))

pub returns-in-Some-clause-some : goal.returns-in-Some-clause-some
returns-in-Some-clause-some g c = λ s stands.
    first_at c.args.plan.now s c.args.key.now c.args.after c.args.visited.now c.args.replicas.nodes c.loop-node.node c.in-Some.place.node c.in-Some.place.store.now
    c.requires.replicas.listed (omega (arith, c.loop-node-test.true)) (c.loop-node.invariant.none s stands) c.in-Some.ensures.node (c.in-Some.ensures.some s stands)
