-- One node more, or none.
use Rattle.std.proofs.Common.{◌≡◌, ◌+◌, [], map, ap, arith}
use Rattle.acc_run.proofs.Beginning.{kept_twice, kept_still}
use Rattle.acc_schedule.specs.Content.{Content}
use Rattle.acc_free.specs.Opened.{desk_actor}
use Rattle.acc_free.proofs.Known.{store_on, no_store_on, all_stores, at_most, itself_at_most, one_after}
use Rattle.acc_free.proofs.Openings.{opened_as, opened_named, opened_still}
use Rattle.acc_free.proofs.opening.put_nodes.Goals as goal
use Rattle.acc_free.proofs.opening.put_nodes.Goals.{then-contains+in_ok-put_node, else-contains}

pub put_node-requires-clause-opened : goal.put_node-requires-clause-opened
put_node-requires-clause-opened g c κs within =
    let d = g.M.D.Disk in
    let n = c.loop-number.number in
    opened_named d g.J.Planned.strict c.args.plan.now c.args.tape.now _ n n c.loop-number.first c.loop-number.desks.items
    (itself_at_most n) c.loop-number.invariant.opened

pub loop-number-preserved : goal.loop-number-preserved
loop-number-preserved g c =
    let l = c.loop-number.invariant in
    let d = g.M.D.Disk in
    let set = c.nodes-members.result in
    let n = c.loop-number.number in
    elim c.if-contains.branch [
      | then-contains+in_ok-put_node w ↦
          let e = w.in_ok-put_node.ensures in
          record {
            opened =
                opened_still d g.J.Planned.strict c.args.plan.now c.args.tape.now _ _ (n + 1) (n + 1) _ _ _ _
                (store_on [] (map desk_actor c.loop-number.desks.items) 0 set n _ l.opened.named w.if-contains.true c.contains.ensures) (itself_at_most (n + 1)) w.first-is (ap (λ v. v.items) w.desks-is) e.ok;
            given = kept_twice g.M.DiskMaker.given _ _ _ _ w.disks-is e.given l.given;
            kind = kept_twice g.M.DiskMaker.strict _ _ _ _ w.disks-is e.kind l.kind;
          }
      | else-contains w ↦
          record {
            opened =
                opened_still d g.J.Planned.strict c.args.plan.now c.args.tape.now _ _ n (n + 1) _ _ _ _
                (no_store_on [] 0 set n _ w.if-contains.false c.contains.ensures) (one_after n) w.first-is (ap (λ v. v.items) w.desks-is) l.opened;
            given = kept_still g.M.DiskMaker.given _ _ _ w.disks-is l.given;
            kind = kept_still g.M.DiskMaker.strict _ _ _ w.disks-is l.kind;
          }
    ]

pub returns-clause-ok : goal.returns-clause-ok
returns-clause-ok g c =
    let full : c.loop-number.number ≡ 16 = omega (arith, c.loop-number-test.false, c.loop-number.auto.number-end) in
    let l = c.loop-number.invariant in
    let d = g.M.D.Disk in
    opened_as d g.J.Planned.strict c.args.plan.now c.args.tape.now _ _ c.loop-number.number 16 c.loop-number.first c.loop-number.desks.items
    (all_stores [] 0 c.nodes-members.result c.loop-number.number _ _ full c.nodes-members.ensures.listed (ap (λ (p : Content). p.topology.nodes) c.plan.view_is)) (at_most c.loop-number.number 16 full) l.opened
