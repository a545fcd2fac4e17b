-- One store more, or none.
use Rattle.std.proofs.Common.{◌≡◌, ℕ, ◌+◌, ◌*◌, ◌<◌, ◌≤◌, true, [], ◌∷◌, ◌++◌, Contains, map, sym, ◌∙◌, ap, subst, arith}
use Rattle.acc_stamp.specs.declared.actors.Actor.{Actor}
use Rattle.acc_topology.specs.Layout.{Layout, IsLayout, HasShard, shard_at}
use Rattle.acc_topology.specs.Sets.{is_among}
use Rattle.acc_schedule.specs.Actors.{actors}
use Rattle.acc_schedule.specs.Content.{Content}
use Rattle.acc_run.proofs.Beginning.{kept_twice, kept_still}
use Rattle.acc_free.specs.Opened.{desk_actor, rank_of}
use Rattle.acc_free.proofs.Known.{store_known, listed_among, store_on, no_store_on, all_stores, at_most}
use Rattle.acc_free.proofs.Openings.{store_rank, opened_as, opened_named, opened_still}
use Rattle.acc_free.proofs.opening.put_stores_of.Goals as goal
use Rattle.acc_free.proofs.opening.put_stores_of.Goals.{then-contains+in_ok-put_store, else-contains}

full_rank : (shard n : ℕ) → n ≡ 16 → shard * 16 + n ≤ (shard + 1) * 16
full_rank shard n is = omega (arith, is)

next_rank : (shard n : ℕ) → shard * 16 + n ≤ shard * 16 + (n + 1)
next_rank shard n = omega arith

own_rank : (rank shard n : ℕ) → rank ≡ shard * 16 + n → rank + 1 ≤ shard * 16 + (n + 1)
own_rank rank shard n is = omega (arith, is)

few_shards : (layout : Layout) (shard : ℕ) → IsLayout layout → HasShard layout shard → shard ≤ 15
few_shards layout shard valid has = let few = valid.few_shards in let there = has.1 in omega (arith, few, there)

low_node : (n : ℕ) → n < 16 → n ≤ 15
low_node n h = omega (arith, h)

pub put_store-requires-clause-known : goal.put_store-requires-clause-known
put_store-requires-clause-known g c κs within =
    let layout = c.args.plan.now.topology in
    let there : is_among (shard_at layout c.args.shard).replicas c.loop-node.node ≡ true =
    listed_among c.replicas-replicas.result (shard_at layout c.args.shard).replicas c.loop-node.node c.contains.result
    (c.replicas-replicas.ensures.set c.loop-node.node ∙ ap (λ (p : Content). is_among (shard_at p.topology c.args.shard).replicas c.loop-node.node) c.plan.view_is) c.contains.ensures c.if-contains.true in
    subst (λ (a : Actor). Contains (actors layout) a) (sym c.actor.ensures.number) (store_known layout c.loop-node.node c.args.shard c.requires.shard there)

pub put_store-requires-clause-opened : goal.put_store-requires-clause-opened
put_store-requires-clause-opened g c κs within =
    let d = g.M.D.Disk in
    let rank : rank_of c.actor.result ≡ c.args.shard * 16 + c.loop-node.node =
    ap rank_of c.actor.ensures.number
    ∙ store_rank c.loop-node.node c.args.shard (low_node c.loop-node.node c.loop-node-test.true) (few_shards c.args.plan.now.topology c.args.shard c.requires.is_plan.layout c.requires.shard) in
    opened_named d g.J.Planned.strict c.args.plan.now c.args.tape.now _ (c.args.shard * 16 + c.loop-node.node) (rank_of c.actor.result)
    c.loop-node.first c.loop-node.desks.items (at_most _ _ (sym rank)) c.loop-node.invariant.opened

pub loop-node-preserved : goal.loop-node-preserved
loop-node-preserved g c =
    let l = c.loop-node.invariant in
    let d = g.M.D.Disk in
    let set = c.replicas-replicas.result in
    let n = c.loop-node.node in
    let shard = c.args.shard in
    let before = map desk_actor c.args.desks.now.items in
    elim c.if-contains.branch [
      | then-contains+in_ok-put_store w ↦
          let e = w.in_ok-put_store.ensures in
          let rank : rank_of w.actor.result ≡ shard * 16 + n =
          ap rank_of w.actor.ensures.number
          ∙ store_rank n shard (low_node n c.loop-node-test.true) (few_shards c.args.plan.now.topology shard c.requires.is_plan.layout c.requires.shard) in
          record {
            opened =
                opened_still d g.J.Planned.strict c.args.plan.now c.args.tape.now _ _ (rank_of w.actor.result + 1) (shard * 16 + (n + 1)) _ _ _ _
                (ap (λ (a : Actor). map desk_actor c.loop-node.desks.items ++ a ∷ []) w.actor.ensures.number ∙ store_on before (map desk_actor c.loop-node.desks.items) shard set n _ l.opened.named w.if-contains.true c.contains.ensures) (own_rank (rank_of w.actor.result) shard n rank) w.first-is (ap (λ v. v.items) w.desks-is) e.ok;
            given = kept_twice g.M.DiskMaker.given _ _ _ _ w.disks-is e.given l.given;
            kind = kept_twice g.M.DiskMaker.strict _ _ _ _ w.disks-is e.kind l.kind;
          }
      | else-contains w ↦
          record {
            opened =
                opened_still d g.J.Planned.strict c.args.plan.now c.args.tape.now _ _ (shard * 16 + n) (shard * 16 + (n + 1)) _ _ _ _
                (no_store_on before shard set n _ w.if-contains.false c.contains.ensures) (next_rank shard n) w.first-is (ap (λ v. v.items) w.desks-is) l.opened;
            given = kept_still g.M.DiskMaker.given _ _ _ w.disks-is l.given;
            kind = kept_still g.M.DiskMaker.strict _ _ _ w.disks-is l.kind;
          }
    ]

pub returns-clause-ok : goal.returns-clause-ok
returns-clause-ok g c =
    let full : c.loop-node.node ≡ 16 = omega (arith, c.loop-node-test.false, c.loop-node.auto.node-end) in
    let l = c.loop-node.invariant in
    let d = g.M.D.Disk in
    let shard = c.args.shard in
    opened_as d g.J.Planned.strict c.args.plan.now c.args.tape.now _ _ (shard * 16 + c.loop-node.node) ((shard + 1) * 16)
    c.loop-node.first c.loop-node.desks.items
    (all_stores (map desk_actor c.args.desks.now.items) shard c.replicas-replicas.result c.loop-node.node _ _ full c.replicas-replicas.ensures.listed
    (ap (λ (p : Content). (shard_at p.topology shard).replicas) c.plan.view_is)) (full_rank shard c.loop-node.node full) l.opened
