use Rattle.std.proofs.Common.{◌≡◌, ℕ, None, Err, option_map, sym, ap, subst, ◌∙◌}
use Rattle.std.proofs.lemmas.Result.{err_from_is_err_and}
use Rattle.serde_json.specs.View.{view}
use Rattle.acc_topology.specs.Sets.{in_set}
use Rattle.acc_schedule.specs.declared.error.PlanError.{PlanError}
use Rattle.acc_schedule.specs.Document.{base_fault, cast_of, is_node_of, layout_of, print_fault, Root, root_with, version_fault, version_of}
use Rattle.acc_schedule.specs.Faults.{Fault, IsFault}
use Rattle.acc_schedule.specs.Seen.{seen_value}
use Rattle.acc_schedule.specs.Steps.{Cast, cast_in, schedule_fault, steps_of}
use Rattle.acc_schedule.specs.Transactions.{bodies_of, transactions_fault}
use Rattle.acc_schedule.proofs.DocumentFacts.{third_of_five, fourth_of_five, fifth_of_five, none_of_five, same_nodes}
use Rattle.acc_schedule.proofs.PlanFacts.{sound_as}
use Rattle.acc_schedule.proofs.document.plan_in.Goals as goal

pub returns-in_err-names-clause-plan : goal.returns-in_err-names-clause-plan
returns-in_err-names-clause-plan c =
    let r : Root = root_with (view c.args.root.now) (option_map view c.args.apart) (seen_value c.args.print) in
    let given : PlanError = c.in_err-names.field-0.0 in
    let p : (e : PlanError) × (c.from_residual-in_err-names.result ≡ Err e) × (e ≡ given) = err_from_is_err_and c.from_residual-in_err-names.result c.from_residual-in_err-names.ensures.1 in
    let its_nodes : in_set c.nodes.result ≡ is_node_of r = same_nodes c.nodes.result c.in_ok-starts.topology (layout_of r) c.nodes.ensures.set c.in_ok-starts.ensures.1.1 in
    let fault : IsFault (transactions_fault (version_of r) (is_node_of r) r.txns) given = subst (λ (f : Fault). IsFault f given) (λ i. transactions_fault (c.in_ok-version.ensures.1 i) (its_nodes i) r.txns) c.in_err-names.ensures in
    rw (p.1, p.2) (third_of_five (version_fault r.version) (base_fault r) (transactions_fault (version_of r) (is_node_of r) r.txns) (schedule_fault (cast_of r) r.schedule) (print_fault r.print) given c.in_ok-version.ensures.0 c.in_ok-starts.ensures.0 fault)

pub returns-in_err-steps-clause-plan : goal.returns-in_err-steps-clause-plan
returns-in_err-steps-clause-plan c =
    let r : Root = root_with (view c.args.root.now) (option_map view c.args.apart) (seen_value c.args.print) in
    let given : PlanError = c.in_err-steps.field-0.0 in
    let p : (e : PlanError) × (c.from_residual-in_err-steps.result ≡ Err e) × (e ≡ given) = err_from_is_err_and c.from_residual-in_err-steps.result c.from_residual-in_err-steps.ensures.1 in
    let its_nodes : in_set c.nodes.result ≡ is_node_of r = same_nodes c.nodes.result c.in_ok-starts.topology (layout_of r) c.nodes.ensures.set c.in_ok-starts.ensures.1.1 in
    let fine : transactions_fault (version_of r) (is_node_of r) r.txns ≡ None = (λ i. transactions_fault (sym c.in_ok-version.ensures.1 i) (sym its_nodes i) r.txns) ∙ c.in_ok-names.ensures.0 in
    let cast : cast_in c.in_ok-names.field-0.names c.in_ok-starts.topology ≡ cast_of r = λ i. cast_in (c.in_ok-names.ensures.1.0 i) (c.in_ok-starts.ensures.1.1 i) in
    let fault : IsFault (schedule_fault (cast_of r) r.schedule) given = subst (λ (x : Cast). IsFault (schedule_fault x r.schedule) given) cast c.in_err-steps.ensures in
    rw (p.1, p.2) (fourth_of_five (version_fault r.version) (base_fault r) (transactions_fault (version_of r) (is_node_of r) r.txns) (schedule_fault (cast_of r) r.schedule) (print_fault r.print) given c.in_ok-version.ensures.0 c.in_ok-starts.ensures.0 fine fault)

pub returns-in_err-print-clause-plan : goal.returns-in_err-print-clause-plan
returns-in_err-print-clause-plan c =
    let r : Root = root_with (view c.args.root.now) (option_map view c.args.apart) (seen_value c.args.print) in
    let given : PlanError = c.in_err-print.field-0.0 in
    let p : (e : PlanError) × (c.from_residual-in_err-print.result ≡ Err e) × (e ≡ given) = err_from_is_err_and c.from_residual-in_err-print.result c.from_residual-in_err-print.ensures.1 in
    let its_nodes : in_set c.nodes.result ≡ is_node_of r = same_nodes c.nodes.result c.in_ok-starts.topology (layout_of r) c.nodes.ensures.set c.in_ok-starts.ensures.1.1 in
    let fine : transactions_fault (version_of r) (is_node_of r) r.txns ≡ None = (λ i. transactions_fault (sym c.in_ok-version.ensures.1 i) (sym its_nodes i) r.txns) ∙ c.in_ok-names.ensures.0 in
    let cast : cast_in c.in_ok-names.field-0.names c.in_ok-starts.topology ≡ cast_of r = λ i. cast_in (c.in_ok-names.ensures.1.0 i) (c.in_ok-starts.ensures.1.1 i) in
    let stepped : schedule_fault (cast_of r) r.schedule ≡ None = ap (λ (x : Cast). schedule_fault x r.schedule) (sym cast) ∙ c.in_ok-steps.ensures.0 in
    rw (p.1, p.2) (fifth_of_five (version_fault r.version) (base_fault r) (transactions_fault (version_of r) (is_node_of r) r.txns) (schedule_fault (cast_of r) r.schedule) (print_fault r.print) given c.in_ok-version.ensures.0 c.in_ok-starts.ensures.0 fine stepped c.in_err-print.ensures)

pub invariant_of-result-2 : goal.invariant_of-result-2
invariant_of-result-2 c =
    let r : Root = root_with (view c.args.root.now) (option_map view c.args.apart) (seen_value c.args.print) in
    let its_nodes : in_set c.nodes.result ≡ is_node_of r = same_nodes c.nodes.result c.in_ok-starts.topology (layout_of r) c.nodes.ensures.set c.in_ok-starts.ensures.1.1 in
    let fine : transactions_fault (version_of r) (is_node_of r) r.txns ≡ None = (λ i. transactions_fault (sym c.in_ok-version.ensures.1 i) (sym its_nodes i) r.txns) ∙ c.in_ok-names.ensures.0 in
    let cast : cast_in c.in_ok-names.field-0.names c.in_ok-starts.topology ≡ cast_of r = λ i. cast_in (c.in_ok-names.ensures.1.0 i) (c.in_ok-starts.ensures.1.1 i) in
    let stepped : schedule_fault (cast_of r) r.schedule ≡ None = ap (λ (x : Cast). schedule_fault x r.schedule) (sym cast) ∙ c.in_ok-steps.ensures.0 in
    let its_topology = c.topology.view_is ∙ c.in_ok-starts.ensures.1.1 in
    let its_starts = c.starts.view_is ∙ c.in_ok-starts.ensures.1.0 in
    let its_names = c.in_ok-into_names.ensures ∙ c.in_ok-names.ensures.1.0 in
    let its_bodies = c.in_ok-names.ensures.1.2 ∙ ap (λ (v : ℕ). bodies_of v r.txns) c.in_ok-version.ensures.1 in
    let its_steps = c.in_ok-steps.ensures.1 ∙ ap (λ (x : Cast). steps_of x r.schedule) cast in
    sound_as r _
    (none_of_five (version_fault r.version) (base_fault r) (transactions_fault (version_of r) (is_node_of r) r.txns) (schedule_fault (cast_of r) r.schedule) (print_fault r.print) c.in_ok-version.ensures.0 c.in_ok-starts.ensures.0 fine stepped c.in_ok-print.ensures.0)
    c.in_ok-names.ensures.1.3
    (λ i. record {
      version = c.in_ok-version.ensures.1 i;
      topology = its_topology i;
      starts = its_starts i;
      names = its_names i;
      homes = c.in_ok-names.ensures.1.1 i;
      bodies = its_bodies i;
      steps = its_steps i;
      print = c.in_ok-print.ensures.1 i;
    })

pub returns-clause-plan : goal.returns-clause-plan
returns-clause-plan c =
    let r : Root = root_with (view c.args.root.now) (option_map view c.args.apart) (seen_value c.args.print) in
    let its_nodes : in_set c.nodes.result ≡ is_node_of r = same_nodes c.nodes.result c.in_ok-starts.topology (layout_of r) c.nodes.ensures.set c.in_ok-starts.ensures.1.1 in
    let fine : transactions_fault (version_of r) (is_node_of r) r.txns ≡ None = (λ i. transactions_fault (sym c.in_ok-version.ensures.1 i) (sym its_nodes i) r.txns) ∙ c.in_ok-names.ensures.0 in
    let cast : cast_in c.in_ok-names.field-0.names c.in_ok-starts.topology ≡ cast_of r = λ i. cast_in (c.in_ok-names.ensures.1.0 i) (c.in_ok-starts.ensures.1.1 i) in
    let stepped : schedule_fault (cast_of r) r.schedule ≡ None = ap (λ (x : Cast). schedule_fault x r.schedule) (sym cast) ∙ c.in_ok-steps.ensures.0 in
    let its_topology = c.topology.view_is ∙ c.in_ok-starts.ensures.1.1 in
    let its_starts = c.starts.view_is ∙ c.in_ok-starts.ensures.1.0 in
    let its_names = c.in_ok-into_names.ensures ∙ c.in_ok-names.ensures.1.0 in
    let its_bodies = c.in_ok-names.ensures.1.2 ∙ ap (λ (v : ℕ). bodies_of v r.txns) c.in_ok-version.ensures.1 in
    let its_steps = c.in_ok-steps.ensures.1 ∙ ap (λ (x : Cast). steps_of x r.schedule) cast in (
      none_of_five (version_fault r.version) (base_fault r) (transactions_fault (version_of r) (is_node_of r) r.txns) (schedule_fault (cast_of r) r.schedule) (print_fault r.print) c.in_ok-version.ensures.0 c.in_ok-starts.ensures.0 fine stepped c.in_ok-print.ensures.0,
      λ i. record {
        version = c.in_ok-version.ensures.1 i;
        topology = its_topology i;
        starts = its_starts i;
        names = its_names i;
        homes = c.in_ok-names.ensures.1.1 i;
        bodies = its_bodies i;
        steps = its_steps i;
        print = c.in_ok-print.ensures.1 i;
      },
    )

pub returns-clause-sound : goal.returns-clause-sound
returns-clause-sound c =
    let r : Root = root_with (view c.args.root.now) (option_map view c.args.apart) (seen_value c.args.print) in
    let its_nodes : in_set c.nodes.result ≡ is_node_of r = same_nodes c.nodes.result c.in_ok-starts.topology (layout_of r) c.nodes.ensures.set c.in_ok-starts.ensures.1.1 in
    let fine : transactions_fault (version_of r) (is_node_of r) r.txns ≡ None = (λ i. transactions_fault (sym c.in_ok-version.ensures.1 i) (sym its_nodes i) r.txns) ∙ c.in_ok-names.ensures.0 in
    let cast : cast_in c.in_ok-names.field-0.names c.in_ok-starts.topology ≡ cast_of r = λ i. cast_in (c.in_ok-names.ensures.1.0 i) (c.in_ok-starts.ensures.1.1 i) in
    let stepped : schedule_fault (cast_of r) r.schedule ≡ None = ap (λ (x : Cast). schedule_fault x r.schedule) (sym cast) ∙ c.in_ok-steps.ensures.0 in
    let its_topology = c.topology.view_is ∙ c.in_ok-starts.ensures.1.1 in
    let its_starts = c.starts.view_is ∙ c.in_ok-starts.ensures.1.0 in
    let its_names = c.in_ok-into_names.ensures ∙ c.in_ok-names.ensures.1.0 in
    let its_bodies = c.in_ok-names.ensures.1.2 ∙ ap (λ (v : ℕ). bodies_of v r.txns) c.in_ok-version.ensures.1 in
    let its_steps = c.in_ok-steps.ensures.1 ∙ ap (λ (x : Cast). steps_of x r.schedule) cast in
    sound_as r _
    (none_of_five (version_fault r.version) (base_fault r) (transactions_fault (version_of r) (is_node_of r) r.txns) (schedule_fault (cast_of r) r.schedule) (print_fault r.print) c.in_ok-version.ensures.0 c.in_ok-starts.ensures.0 fine stepped c.in_ok-print.ensures.0)
    c.in_ok-names.ensures.1.3
    (λ i. record {
      version = c.in_ok-version.ensures.1 i;
      topology = its_topology i;
      starts = its_starts i;
      names = its_names i;
      homes = c.in_ok-names.ensures.1.1 i;
      bodies = its_bodies i;
      steps = its_steps i;
      print = c.in_ok-print.ensures.1 i;
    })
