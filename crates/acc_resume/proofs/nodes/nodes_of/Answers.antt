-- One node more, or none with this number.
use Rattle.std.proofs.Common.{◌≡◌, ℕ, List, sym, ap, subst, arith}
use Rattle.acc_ports.specs.MemoryDisk.{MemoryDisk}
use Rattle.acc_schedule.specs.Content.{Content}
use Rattle.acc_durable_node.specs.declared.node.DurableNode.{DurableNode}
use Rattle.acc_run.proofs.Numbers.{one_more, no_more, all_named}
use Rattle.acc_run.proofs.Beginning.{items_of, number_in, pushed, renamed}
use Rattle.acc_resume.specs.Opened.{memory, IsOpenedNode}
use Rattle.acc_resume.proofs.nodes.nodes_of.Goals as goal
use Rattle.acc_resume.proofs.nodes.nodes_of.Goals.{then-contains+in_ok-node+in_ok-push, else-contains}

pub loop-number-preserved : goal.loop-number-preserved
loop-number-preserved c =
    let set = c.nodes-members.result in
    let P = λ (n : DurableNode MemoryDisk). IsOpenedNode memory c.args.plan.now c.args.images.now n.name.number n in
    elim c.if-contains.branch [
      | then-contains+in_ok-node+in_ok-push w ↦
          let n = w.in_ok-node.ensures in
          pushed number_in P _ _ c.loop-number.number _ _ _ w.in_ok-node.node c.loop-number.invariant (one_more set c.loop-number.number _ w.if-contains.true c.contains.ensures)
          (ap items_of w.nodes-is) w.in_ok-push.ensures.items n.number_is
          (subst (λ (k : ℕ). IsOpenedNode memory c.args.plan.now c.args.images.now k w.in_ok-node.node) (sym n.number_is) n)
      | else-contains w ↦
          renamed number_in P _ _ _ _ c.loop-number.invariant (no_more set c.loop-number.number _ w.if-contains.false c.contains.ensures) (ap items_of w.nodes-is)
    ]

pub returns : goal.returns
returns c =
    let full : c.loop-number.number ≡ 16 = omega (arith, c.loop-number-test.false, c.loop-number.auto.number-end) in
    let l = c.loop-number.invariant in
    record {
      numbers = all_named (λ (nodes : List ℕ). nodes) _ c.nodes-members.result c.loop-number.number _ _ l.names_are full c.nodes-members.ensures.listed (ap (λ (p : Content). p.topology.nodes) c.plan.view_is);
      each = l.each;
    }
