use Rattle.std.proofs.Common.{◌≡◌, ℕ, List, sym, ◌∙◌, ap, subst, arith}
use Rattle.std.specs.List.{AllByRecursion}
use Rattle.acc_schedule.specs.Content.{Content}
use Rattle.acc_run.specs.Fresh.{IsFreshNode}
use Rattle.acc_run.proofs.Numbers.{one_more, no_more, all_named}
use Rattle.acc_run.proofs.Beginning.{items_of, number_in, IsNodeUnarmed, pushed, renamed, each_pushed, kept_twice, kept_still}
use Rattle.acc_run.proofs.opening.fresh_nodes.Goals as goal
use Rattle.acc_run.proofs.opening.fresh_nodes.Goals.{then-contains+in_ok-node+in_ok-push, else-contains}

pub loop-number-preserved : goal.loop-number-preserved
loop-number-preserved g c =
    let l = c.loop-number.invariant in
    let set = c.nodes-members.result in
    elim c.if-contains.branch [
      | then-contains+in_ok-node+in_ok-push w ↦
          let n = w.in_ok-node.ensures in
          record {
            fresh = pushed number_in (IsFreshNode g.M.D.Disk c.args.plan.now) _ _ c.loop-number.number _ _ _ w.in_ok-node.node l.fresh (one_more set c.loop-number.number _ w.if-contains.true c.contains.ensures) (ap items_of w.nodes-is) w.in_ok-push.ensures.items n.number n.fresh;
            unarmed = λ s. each_pushed (IsNodeUnarmed g.M.D.Disk) _ _ _ w.in_ok-node.node (l.unarmed s) (ap items_of w.nodes-is) w.in_ok-push.ensures.items (n.strict (l.kind ∙ s));
            given = kept_twice g.M.DiskMaker.given _ _ _ _ w.disks-is n.given l.given;
            kind = kept_twice g.M.DiskMaker.strict _ _ _ _ w.disks-is n.kind l.kind;
          }
      | else-contains w ↦
          record {
            fresh = renamed number_in (IsFreshNode g.M.D.Disk c.args.plan.now) _ _ _ _ l.fresh (no_more set c.loop-number.number _ w.if-contains.false c.contains.ensures) (ap items_of w.nodes-is);
            unarmed = λ s. subst (AllByRecursion (IsNodeUnarmed g.M.D.Disk)) (sym (ap items_of w.nodes-is)) (l.unarmed s);
            given = kept_still g.M.DiskMaker.given _ _ _ w.disks-is l.given;
            kind = kept_still g.M.DiskMaker.strict _ _ _ w.disks-is l.kind;
          }
    ]

pub returns-clause-ok : goal.returns-clause-ok
returns-clause-ok g c =
    let full : c.loop-number.number ≡ 16 = omega (arith, c.loop-number-test.false, c.loop-number.auto.number-end) in
    let l = c.loop-number.invariant in
    record {
      numbers = all_named (λ (nodes : List ℕ). nodes) _ c.nodes-members.result c.loop-number.number _ _ l.fresh.names_are full c.nodes-members.ensures.listed (ap (λ (p : Content). p.topology.nodes) c.plan.view_is);
      each = l.fresh.each;
    }
