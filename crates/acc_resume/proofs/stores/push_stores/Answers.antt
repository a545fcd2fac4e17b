-- One store more, or none at this node.
use Rattle.std.proofs.Common.{◌≡◌, ℕ, ◌++◌, List, map, ◌∙◌, ap, arith}
use Rattle.acc_stamp.specs.Actor.{actor_of}
use Rattle.acc_topology.specs.Layout.{shard_at}
use Rattle.acc_schedule.specs.Content.{Content}
use Rattle.acc_durable_store.specs.Store.{actor_in}
use Rattle.acc_run.proofs.Numbers.{one_more_store, no_more_store, all_named}
use Rattle.acc_run.proofs.Beginning.{items_of, pushed, renamed}
use Rattle.acc_resume.specs.Opened.{memory, IsOpenedStore}
use Rattle.acc_resume.proofs.stores.push_stores.Goals as goal
use Rattle.acc_resume.proofs.stores.push_stores.Goals.{then-contains+in_ok-store+in_ok-push, else-contains}

pub loop-node-preserved : goal.loop-node-preserved
loop-node-preserved c =
    let set = c.replicas-replicas.result in
    let before = map actor_in c.args.stores.now.items in
    let P = IsOpenedStore memory c.args.plan.now c.args.images.now in
    elim c.if-contains.branch [
      | then-contains+in_ok-store+in_ok-push w ↦
          let t = w.in_ok-store.ensures in
          pushed actor_in P _ _ (actor_of c.loop-node.node c.args.shard) _ _ _ w.in_ok-store.store c.loop-node.invariant
          (one_more_store before c.args.shard set c.loop-node.node _ w.if-contains.true c.contains.ensures) (ap items_of w.stores-is) w.in_ok-push.ensures.items (t.actor ∙ w.actor-own.ensures.number) t.opened
      | else-contains w ↦
          renamed actor_in P _ _ _ _ c.loop-node.invariant (no_more_store before c.args.shard set c.loop-node.node _ w.if-contains.false c.contains.ensures) (ap items_of w.stores-is)
    ]

pub returns-clause-actors : goal.returns-clause-actors
returns-clause-actors c =
    let full : c.loop-node.node ≡ 16 = omega (arith, c.loop-node-test.false, c.loop-node.auto.node-end) in
    let l = c.loop-node.invariant in
    all_named (λ (nodes : List ℕ). map actor_in c.args.stores.now.items ++ map (λ node. actor_of node c.args.shard) nodes) _ c.replicas-replicas.result c.loop-node.node _ _ l.names_are full
    c.replicas-replicas.ensures.listed (ap (λ (p : Content). (shard_at p.topology c.args.shard).replicas) c.plan.view_is)
