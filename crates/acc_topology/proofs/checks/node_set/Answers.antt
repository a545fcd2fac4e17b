use Rattle.std.proofs.Common.{◌∙◌, ap, sym}
use Rattle.acc_topology.specs.declared.error.TopologyError.TheVariants.{Wrong}
use Rattle.acc_topology.specs.declared.error.TopologyKind.TheVariants.{Twice}
use Rattle.acc_topology.specs.declared.given.NodeSpec.{NodeSpec}
use Rattle.acc_topology.specs.Sets.{is_among}
use Rattle.acc_topology.specs.Faults.{node_fault}
use Rattle.acc_base.proofs.Faults.{must_kept, each_goes_on}
use Rattle.acc_topology.proofs.Rules.{is_new-not_in, IsSetOf-push, ids-more}
use Rattle.acc_topology.proofs.checks.node_set.Goals as goal

pub loop-place-preserved : goal.loop-place-preserved
loop-place-preserved c =
    let nodes = c.args.nodes.now in
    let place = c.loop-place.place in
    let none : NodeSpec = record { id = 0; clock = 0 } in
    let is_new = is_new-not_in c.loop-place.set _ _ c.loop-place.invariant.1 c.if-contains.ensures in (
      each_goes_on (node_fault nodes) nodes place none _ c.loop-place-test.true (must_kept _ (Wrong Twice 0 place) is_new) c.loop-place.invariant.0,
      λ n. (IsSetOf-push c.loop-place.set c.with-set.result _ _ c.loop-place.invariant.1 c.with-set.ensures n) ∙ ap (λ ns. is_among ns n) (sym (ids-more nodes place none c.loop-place-test.true)),
    )
