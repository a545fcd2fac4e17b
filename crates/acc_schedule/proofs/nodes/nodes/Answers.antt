use Rattle.std.proofs.Common.{◌≡◌, ◌≤◌, All, Err, length, sym, ap, subst, arith}
use Rattle.std.proofs.lemmas.List.Elements.{All-push}
use Rattle.std.proofs.lemmas.Result.{err_from_is_err_and}
use Rattle.serde_json.specs.View.{view}
use Rattle.acc_topology.specs.declared.given.NodeSpec.{NodeSpec}
use Rattle.acc_schedule.specs.declared.error.PlanError.{PlanError}
use Rattle.acc_schedule.specs.Document.{nodes}
use Rattle.acc_schedule.specs.Fields.{items}
use Rattle.acc_schedule.specs.Nodes.{node_fault, node_of}
use Rattle.acc_schedule.proofs.EachFacts.{none_read, one_more, element_fails, list_read, read_few}
use Rattle.acc_schedule.proofs.nodes.nodes.Goals as goal

abbrev IsNumbered : NodeSpec → Type 0
IsNumbered n = (1 ≤ n.id) × (n.id ≤ 15)

pub loop-place-init : goal.loop-place-init
loop-place-init c = (
  none_read node_fault node_of c.in_ok-items.items.now c.new-nodes.result c.new-nodes.ensures,
  λ k d lt. absurd (omega (arith, ap length c.new-nodes.ensures)),
)

pub loop-place-preserved : goal.loop-place-preserved
loop-place-preserved c = (
  one_more node_fault node_of c.in_ok-items.items.now c.loop-place.place c.loop-place.nodes c.push.new.self c.index-items-place.result c.in_ok-node.field-0 c.loop-place.invariant.0 c.loop-place-test.true
      c.index-items-place.is c.in_ok-node.ensures.0 c.in_ok-node.ensures.1.0 c.in_ok-push.ensures.ok,
  subst (All IsNumbered) (sym c.in_ok-push.ensures.ok)
      (All-push IsNumbered c.loop-place.nodes c.in_ok-node.field-0 c.loop-place.invariant.1 (c.in_ok-node.ensures.1.1, c.in_ok-node.ensures.1.2)),
)

pub returns-in_err-node : goal.returns-in_err-node
returns-in_err-node c =
    let given : PlanError = c.in_err-node.field-0.0 in
    let p : (e : PlanError) × (c.from_residual-in_err-node.result ≡ Err e) × (e ≡ given) = err_from_is_err_and c.from_residual-in_err-node.result c.from_residual-in_err-node.ensures.1 in
    rw (p.1, p.2)
    (element_fails _ node_fault node_of c.in_ok-items.items.now (items (nodes (view c.args.root.now))) c.loop-place.place c.loop-place.nodes c.index-items-place.result given c.in_ok-items.ensures.0 c.in_ok-items.ensures.1.0
    c.loop-place.invariant.0 c.loop-place-test.true c.index-items-place.is c.in_err-node.ensures)

pub returns : goal.returns
returns c =
    let read = list_read _ node_fault node_of c.in_ok-items.items.now (items (nodes (view c.args.root.now))) c.loop-place.place c.loop-place.nodes c.in_ok-items.ensures.0 c.in_ok-items.ensures.1.0 c.loop-place.invariant.0
    (omega (arith, c.loop-place-test.false)) in
    (read.0, (read.1, read_few node_of c.in_ok-items.items.now (items (nodes (view c.args.root.now))) c.loop-place.nodes 15 c.in_ok-items.ensures.1.0 read.1 c.in_ok-items.ensures.1.1, c.loop-place.invariant.1))
