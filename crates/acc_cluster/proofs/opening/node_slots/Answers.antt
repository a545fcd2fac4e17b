-- The nodes so far stand in their slots, and one more.
use Rattle.std.proofs.Common.{ℕ, ◌<◌, List, [], ◌∷◌, ◌++◌, map, length, length-append, IsTrue, sym, ◌∙◌, ap, subst, arith}
use Rattle.std.specs.List.{AllByRecursion, slice_index_or}
use Rattle.std.specs.Vec.Iter.{into_iter_items}
use Rattle.acc_topology.specs.Sets.{is_among}
use Rattle.acc_schedule.specs.Content.{Content}
use Rattle.acc_durable_node.specs.declared.node.DurableNode.{DurableNode}
use Rattle.acc_cluster.specs.Opened.{IsNodeOf, AreFilled, AreFilledStrictly}
use Rattle.acc_cluster.proofs.Filled.{all_seam, number_at, is_member}
use Rattle.acc_cluster.proofs.Turns.{one_more, all_out}
use Rattle.acc_cluster.proofs.opening.node_slots.Goals as goal

pub put_node-requires-clause-node : goal.put_node-requires-clause-node
put_node-requires-clause-node g c =
    let after = into_iter_items c.next.new.self in
    let seam = ap (λ (l : List (DurableNode g.row.D.Denot)). c.loop-node.yielded ++ l) (sym c.in-Some.ensures.steps.0) ∙ c.loop-node.invariant.rest in
    let P = IsNodeOf g.D.Disk c.args.plan.now in
    all_seam P c.loop-node.yielded c.in-Some.node after (subst (λ (ns : List (DurableNode g.row.D.Denot)). AllByRecursion P ns) (sym seam) c.requires.nodes)

pub put_node-requires-clause-number : goal.put_node-requires-clause-number
put_node-requires-clause-number g c =
    let after = into_iter_items c.next.new.self in
    let seam = ap (λ (l : List (DurableNode g.row.D.Denot)). c.loop-node.yielded ++ l) (sym c.in-Some.ensures.steps.0) ∙ c.loop-node.invariant.rest in
    let numbers = c.in_ok-numbers.numbers.items in
    let d = c.index.result.now in
    let are = ap (λ (ns : List (DurableNode g.row.D.Denot)). map (λ (m : DurableNode g.row.D.Denot). m.name.number) ns) seam ∙ c.requires.numbers ∙ ap (λ (p : Content). p.topology.nodes) (sym c.plan.view_is)
    ∙ sym c.nodes.ensures.listed ∙ sym c.in_ok-numbers.ensures in
    number_at c.loop-node.yielded c.in-Some.node after numbers d are ∙ ap (λ (k : ℕ). slice_index_or numbers k d) (sym c.loop-node.invariant.place) ∙ sym c.index.ensures

pub put_node-requires-clause-known : goal.put_node-requires-clause-known
put_node-requires-clause-known g c =
    let numbers = c.in_ok-numbers.numbers.items in
    let d = c.index.result.now in
    let low : c.loop-node.place < length numbers = omega (arith, c.if-place-len.false, c.len.ensures, c.in_ok-numbers.numbers.ok.0) in
    let are = c.in_ok-numbers.ensures ∙ c.nodes.ensures.listed ∙ ap (λ (p : Content). p.topology.nodes) c.plan.view_is in
    subst (λ (ns : List ℕ). IsTrue (is_among ns d)) are (subst (λ (n : ℕ). IsTrue (is_among numbers n)) (sym c.index.ensures) (is_member numbers c.loop-node.place d low))

pub loop-node-preserved : goal.loop-node-preserved
loop-node-preserved g c =
    let before = c.loop-node.invariant in
    let nodes = c.loop-node.yielded in
    let node = c.in-Some.node in
    let long = length-append nodes (node ∷ []) in record {
      can_next = tt;
      is_finite = tt;
      rest = one_more nodes node (into_iter_items c.loop-node.node-iterator) (into_iter_items c.next.new.self) c.args.nodes.items before.rest c.in-Some.ensures.steps.0;
      place = omega (arith, long, before.place);
      filled = c.in_ok-put_node.ensures.filled nodes [] before.filled;
      strictly = c.in_ok-put_node.ensures.strictly nodes [] before.strictly;
    }

pub returns-clause-filled : goal.returns-clause-filled
returns-clause-filled g c =
    let left = c.loop-node.node-iterator in
    let all = all_out c.loop-node.yielded (into_iter_items left) c.args.nodes.items left.rest.len c.loop-node.invariant.rest left.rest.ok.0 c.in-None.ensures.steps.0 in
    subst (λ (nodes : List (DurableNode g.row.D.Denot)). AreFilled g.D.Disk c.args.plan.now nodes [] c.loop-node.slots.items) all c.loop-node.invariant.filled

pub returns-clause-strictly : goal.returns-clause-strictly
returns-clause-strictly g c =
    let d = g.D.Disk in
    let left = c.loop-node.node-iterator in
    let all = all_out c.loop-node.yielded (into_iter_items left) c.args.nodes.items left.rest.len c.loop-node.invariant.rest left.rest.ok.0 c.in-None.ensures.steps.0 in
    subst (λ (nodes : List (DurableNode g.row.D.Denot)). AreFilledStrictly d c.args.plan.now nodes [] c.loop-node.slots.items) all c.loop-node.invariant.strictly
