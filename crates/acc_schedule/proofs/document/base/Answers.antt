use Rattle.std.proofs.Common.{◌≡◌, Err, sym, subst, ◌∙◌}
use Rattle.std.proofs.lemmas.Result.{err_from_is_err_and}
use Rattle.serde_json.specs.View.{view}
use Rattle.acc_topology.specs.Faults.{given_layout}
use Rattle.acc_schedule.specs.declared.error.PlanError.{PlanError}
use Rattle.acc_schedule.specs.Cluster.{cluster_fault}
use Rattle.acc_schedule.specs.Document.{nodes, shards}
use Rattle.acc_schedule.specs.Faults.{Fault, IsFault}
use Rattle.acc_schedule.specs.Nodes.{nodes_fault, nodes_of}
use Rattle.acc_schedule.specs.Shards.{shards_fault, shards_of}
use Rattle.acc_schedule.proofs.DocumentFacts.{first_of_three, second_of_three, third_of_three, none_of_three}
use Rattle.acc_schedule.proofs.document.base.Goals as goal

pub returns-in_err-starts : goal.returns-in_err-starts
returns-in_err-starts c =
    let d = view c.args.root.now in
    let given : PlanError = c.in_err-starts.field-0.0 in
    let p : (e : PlanError) × (c.from_residual.result ≡ Err e) × (e ≡ given) = err_from_is_err_and c.from_residual.result c.from_residual.ensures.1 in
    rw (p.1, p.2) (first_of_three (nodes_fault (nodes d)) (shards_fault (shards d)) (cluster_fault (nodes_of (nodes d)) (shards_of (shards d))) given c.in_err-starts.ensures)

pub returns-in_err-shards : goal.returns-in_err-shards
returns-in_err-shards c =
    let d = view c.args.root.now in
    let given : PlanError = c.in_err-shards.field-0.0 in
    let p : (e : PlanError) × (c.from_residual-in_err-shards.result ≡ Err e) × (e ≡ given) = err_from_is_err_and c.from_residual-in_err-shards.result c.from_residual-in_err-shards.ensures.1 in
    rw (p.1, p.2) (second_of_three (nodes_fault (nodes d)) (shards_fault (shards d)) (cluster_fault (nodes_of (nodes d)) (shards_of (shards d))) given c.in_ok-starts.ensures.0 c.in_err-shards.ensures)

pub returns-in_err-topology : goal.returns-in_err-topology
returns-in_err-topology c =
    let d = view c.args.root.now in
    let given : PlanError = c.in_err-topology.field-0.0 in
    let p : (e : PlanError) × (c.from_residual-in_err-topology.result ≡ Err e) × (e ≡ given) = err_from_is_err_and c.from_residual-in_err-topology.result c.from_residual-in_err-topology.ensures.1 in
    let its_nodes : c.as_slice.result.now ≡ nodes_of (nodes d) = c.as_slice.ensures ∙ c.in_ok-starts.ensures.1.0 in
    let its_shards : c.as_slice-2.result.now ≡ shards_of (shards d) = c.as_slice-2.ensures ∙ c.in_ok-shards.ensures.1.0 in
    let fault : IsFault (cluster_fault (nodes_of (nodes d)) (shards_of (shards d))) given = subst (λ (f : Fault). IsFault f given) (λ i. cluster_fault (its_nodes i) (its_shards i)) c.in_err-topology.ensures in
    rw (p.1, p.2) (third_of_three (nodes_fault (nodes d)) (shards_fault (shards d)) (cluster_fault (nodes_of (nodes d)) (shards_of (shards d))) given c.in_ok-starts.ensures.0 c.in_ok-shards.ensures.0 fault)

pub returns : goal.returns
returns c =
    let d = view c.args.root.now in
    let its_nodes : c.as_slice.result.now ≡ nodes_of (nodes d) = c.as_slice.ensures ∙ c.in_ok-starts.ensures.1.0 in
    let its_shards : c.as_slice-2.result.now ≡ shards_of (shards d) = c.as_slice-2.ensures ∙ c.in_ok-shards.ensures.1.0 in
    let fine : cluster_fault (nodes_of (nodes d)) (shards_of (shards d)) ≡ cluster_fault c.as_slice.result.now c.as_slice-2.result.now = λ i. cluster_fault (sym its_nodes i) (sym its_shards i) in (
      none_of_three (nodes_fault (nodes d)) (shards_fault (shards d)) (cluster_fault (nodes_of (nodes d)) (shards_of (shards d))) c.in_ok-starts.ensures.0 c.in_ok-shards.ensures.0 (fine ∙ c.in_ok-topology.ensures.0),
      (c.in_ok-starts.ensures.1.0, c.in_ok-topology.ensures.1 ∙ (λ i. given_layout (its_nodes i) (its_shards i))),
    )
