use Rattle.std.proofs.Common.{◌≡◌, ℕ, ◌++◌, List, map, sym, ◌∙◌, ap, subst, arith}
use Rattle.std.specs.List.{AllByRecursion}
use Rattle.acc_stamp.specs.Actor.{actor_of}
use Rattle.acc_topology.specs.Layout.{shard_at}
use Rattle.acc_schedule.specs.Content.{Content}
use Rattle.acc_durable_store.specs.Store.{actor_in}
use Rattle.acc_run.specs.Fresh.{IsFreshStore}
use Rattle.acc_run.proofs.Numbers.{one_more_store, no_more_store, all_named}
use Rattle.acc_run.proofs.Beginning.{items_of, IsStoreUnarmed, pushed, renamed, each_pushed, kept_twice, kept_still}
use Rattle.acc_run.proofs.opening.fresh_stores_of.Goals as goal
use Rattle.acc_run.proofs.opening.fresh_stores_of.Goals.{then-contains+in_ok-store+in_ok-push, else-contains}

pub loop-node-preserved : goal.loop-node-preserved
loop-node-preserved g c =
    let l = c.loop-node.invariant in
    let set = c.replicas-replicas.result in
    let before = map actor_in c.args.stores.now.items in
    elim c.if-contains.branch [
      | then-contains+in_ok-store+in_ok-push w ↦
          let t = w.in_ok-store.ensures in
          record {
            fresh =
                pushed actor_in (IsFreshStore g.M.D.Disk c.args.plan.now) _ _ (actor_of c.loop-node.node c.args.shard) _ _ _ w.in_ok-store.store l.fresh
                (one_more_store before c.args.shard set c.loop-node.node _ w.if-contains.true c.contains.ensures) (ap items_of w.stores-is) w.in_ok-push.ensures.items t.actor t.fresh;
            unarmed = λ s u. each_pushed (IsStoreUnarmed g.M.D.Disk) _ _ _ w.in_ok-store.store (l.unarmed s u) (ap items_of w.stores-is) w.in_ok-push.ensures.items (t.strict (l.kind ∙ s));
            given = kept_twice g.M.DiskMaker.given _ _ _ _ w.disks-is t.given l.given;
            kind = kept_twice g.M.DiskMaker.strict _ _ _ _ w.disks-is t.kind l.kind;
          }
      | else-contains w ↦
          record {
            fresh =
                renamed actor_in (IsFreshStore g.M.D.Disk c.args.plan.now) _ _ _ _ l.fresh (no_more_store before c.args.shard set c.loop-node.node _ w.if-contains.false c.contains.ensures) (ap items_of w.stores-is);
            unarmed = λ s u. subst (AllByRecursion (IsStoreUnarmed g.M.D.Disk)) (sym (ap items_of w.stores-is)) (l.unarmed s u);
            given = kept_still g.M.DiskMaker.given _ _ _ w.disks-is l.given;
            kind = kept_still g.M.DiskMaker.strict _ _ _ w.disks-is l.kind;
          }
    ]

pub returns-clause-actors : goal.returns-clause-actors
returns-clause-actors g c =
    let full : c.loop-node.node ≡ 16 = omega (arith, c.loop-node-test.false, c.loop-node.auto.node-end) in
    let l = c.loop-node.invariant in
    all_named (λ (nodes : List ℕ). map actor_in c.args.stores.now.items ++ map (λ node. actor_of node c.args.shard) nodes) _ c.replicas-replicas.result c.loop-node.node _ _ l.fresh.names_are full
    c.replicas-replicas.ensures.listed (ap (λ (p : Content). (shard_at p.topology c.args.shard).replicas) c.plan.view_is)
