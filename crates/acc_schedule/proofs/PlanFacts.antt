-- The plan of fields that break no rule.
use Rattle.std.proofs.Common.{◌≡◌, ℕ, zero, suc, ◌<◌, ◌≤◌, List, [], ◌∷◌, length, take, map, get_or, Bool, true, false, None, Result, IfOk, IfErr, All, IsTrue, codes, refl, sym, ap, subst, ◌∙◌, arith}
use Rattle.std.specs.List.{AllByRecursion}
use Rattle.std.proofs.lemmas.Bool.{and_parts, leb-true}
use Rattle.std.proofs.lemmas.List.{length-map, get_or-map, take_all}
use Rattle.serde_json.specs.Data.{Data, null}
use Rattle.serde_json.specs.Find.{get}
use Rattle.acc_topology.specs.declared.given.NodeSpec.{NodeSpec}
use Rattle.acc_topology.specs.declared.given.ShardSpec.{ShardSpec}
use Rattle.acc_topology.specs.Faults.{ids, nodes_fault as topology_nodes_fault, shards_fault as topology_shards_fault, fault_of, given_shard}
use Rattle.acc_topology.specs.Sets.{in_order, is_among}
use Rattle.acc_topology.proofs.Accepted.{given_is_layout}
use Rattle.acc_topology.proofs.Listed.{length-in_order-take}
use Rattle.acc_txn.specs.Rules.{IsBody}
use Rattle.acc_lang.specs.Texts.{has_text_value}
use Rattle.acc_schedule.specs.declared.error.PlanError.{PlanError}
use Rattle.acc_schedule.specs.declared.error.PlanKind.TheVariants.{Shape, Limit, Name}
use Rattle.acc_schedule.specs.Content.{Content}
use Rattle.acc_base.specs.Faults.{each}
use Rattle.acc_base.proofs.Faults.{then_none, must_none, each_all, each_from_0}
use Rattle.acc_schedule.specs.Faults.{bad, Gives, IsOfRule}
use Rattle.acc_schedule.specs.Fields.{field, items, list_fault, text}
use Rattle.acc_schedule.specs.Paths.{field_path, part_path}
use Rattle.acc_schedule.specs.Nodes.{clock, clock_fault, node_fault, node_of, nodes_fault, nodes_of}
use Rattle.acc_schedule.specs.Shards.{electorate_fault, is_end, ids_fault, shard_fault, shards_fault, shards_of, shard_of}
use Rattle.acc_schedule.specs.Cluster.{cluster_fault, node_path, placed, shard_path}
use Rattle.acc_schedule.specs.Transactions.{bodies_of, body_fault, body_of, home_fault, home_of, homes_of, is_name, is_new, name_fault, name_of, names_of, transaction_fault, transactions_fault}
use Rattle.acc_schedule.specs.Steps.{schedule_fault, step_fault, step_of}
use Rattle.acc_schedule.specs.Document.{base_fault, cast_of, document_fault, fields_fault, is_node_of, layout_of, plan_in, plan_of, print_fault, Root, root_fault, root_of, version_fault, version_of}
use Rattle.acc_schedule.specs.Plan.{IsPlan, IsStep}
use Rattle.acc_schedule.proofs.ClusterFacts.{fine_node, no_fault, nodes_fine, none_at}
use Rattle.acc_schedule.proofs.BuiltFacts.{given_of_rule}
use Rattle.acc_schedule.proofs.DocumentFacts.{given_behind, given_same}
use Rattle.acc_schedule.proofs.KeptFacts.{one_of, step_known, within}
use Rattle.acc_schedule.proofs.TextFacts.{numbers_alone}

-- ---- lists

few_items : (most : ℕ) (d : Data) (path : List (List ℕ)) → list_fault most path d ≡ None → length (items d) ≤ most
few_items most d path h = leb-true (length (items d)) most (must_none _ (bad Limit path) (then_none _ _ h).1)

-- ---- nodes

-- what a node's rules say of it
record IsStart (n : NodeSpec) : Type 0 where
  least : 1 ≤ n.id
  most : n.id ≤ 15
  clock_most : n.clock ≤ 1000000000000

start_of : (place : ℕ) (d : Data) → node_fault place d ≡ None → IsStart (node_of d)
start_of place d h =
    let parts = then_none _ (clock_fault place d) h in
    let id = within 1 15 (field (codes "id") d) (must_none _ (bad Limit (part_path (codes "nodes") place (codes "id"))) (then_none _ _ (then_none _ _ parts.0).1).1) in
    record {
      least = id.0;
      most = id.1;
      clock_most = (within 0 1000000000000 (clock d) (must_none _ (bad Limit (part_path (codes "nodes") place (codes "clock"))) (then_none _ _ parts.1).1)).1;
    }

starts : (d : Data) → nodes_fault d ≡ None → AllByRecursion IsStart (nodes_of d)
starts d h = each_all node_fault node_of IsStart start_of (items d) 0 (then_none _ _ h).1

numbered : (ns : List NodeSpec) → AllByRecursion IsStart ns → All (λ n. (1 ≤ n.id) × (n.id ≤ 15)) ns
numbered [] h k d lt = absurd (omega arith)
numbered (n ∷ ns) h zero d lt = (h.0.least, h.0.most)
numbered (n ∷ ns) h (suc k) d lt = numbered ns h.1 k d (omega arith)

clocks : (ns : List NodeSpec) → AllByRecursion IsStart ns → AllByRecursion (λ n. n.clock ≤ 1000000000000) ns
clocks [] h = tt
clocks (n ∷ ns) h = (h.0.clock_most, clocks ns h.1)

-- no node stands twice, so the layout has as many
once : (ns : List NodeSpec) → AllByRecursion IsStart ns → topology_nodes_fault ns ≡ None → length ns ≡ length (in_order (ids ns))
once ns h none =
    let long : length (ids ns) ≡ length ns = length-map ns (λ n. n.id) in
    let whole : take (length (ids ns)) (ids ns) ≡ ids ns = take_all (length (ids ns)) (ids ns) (omega arith) in
    sym (ap (λ (l : List ℕ). length (in_order l)) (sym whole) ∙ length-in_order-take (ids ns) (length (ids ns)) (omega arith) (λ i lt. fine i (omega (arith, long))) ∙ long)
  where
    fine : (i : ℕ) → i < length ns → (is_among (take i (ids ns)) (get_or (ids ns) i 0) ≡ false) × (get_or (ids ns) i 0 < 16)
    fine i lt =
        let n : NodeSpec = get_or ns i none_at in
        let at : get_or (ids ns) i 0 ≡ n.id = get_or-map (λ n. n.id) ns i none_at 0 lt in
        let kept = numbered ns h i none_at lt in
        (ap (is_among (take i (ids ns))) at ∙ fine_node ns i none lt, omega (arith, at, kept.1))

-- ---- shards

end_kept : (place : ℕ) (d : Data) → shard_fault place d ≡ None → is_end (shard_of d).end ≡ true
end_kept place d h =
    let named = then_none _ (electorate_fault (part_path (codes "shards") place (codes "electorate")) (get (codes "electorate") d)) h in
    let front = then_none _ (ids_fault (part_path (codes "shards") place (codes "replicas")) (field (codes "replicas") d)) named.0 in
    must_none _ (bad Limit (part_path (codes "shards") place (codes "end"))) (then_none _ _ (then_none _ _ front.0).1).1

ends_given : (ss : List ShardSpec) → AllByRecursion (λ s. IsTrue (is_end s.end)) ss → AllByRecursion (λ s. IsTrue (is_end s.end)) (map given_shard ss)
ends_given [] h = tt
ends_given (s ∷ ss) h = (h.0, ends_given ss h.1)

-- ---- transactions

transaction_kept : (version : ℕ) (is_node : ℕ → Bool) (before : List (List ℕ)) (place : ℕ) (d : Data) → transaction_fault version is_node before place d ≡ None
    → (is_name (name_of d) ≡ true) × (is_new before (name_of d) ≡ true) × (is_node (home_of d) ≡ true) × (version ≡ 1 → has_text_value (body_of version d) ≡ false)
transaction_kept version is_node before place d h =
    let parts = then_none _ (body_fault version (part_path (codes "txns") place (codes "text")) (field (codes "text") d)) h in
    let front = then_none _ (home_fault is_node (part_path (codes "txns") place (codes "node")) (field (codes "node") d)) parts.0 in
    let named = then_none _ (name_fault before (part_path (codes "txns") place (codes "name")) (field (codes "name") d)) front.0 in
    let name = and_parts (is_name (name_of d)) (is_new before (name_of d)) (must_none _ (bad Name (part_path (codes "txns") place (codes "name"))) (then_none _ _ named.1).1) in (
      name.0,
      name.1,
      one_of is_node (field (codes "node") d) (must_none _ (bad Name (part_path (codes "txns") place (codes "node"))) (then_none _ _ front.1).1),
      λ first. numbers_alone version (part_path (codes "txns") place (codes "text")) (text (field (codes "text") d)) first (then_none _ _ parts.1).1,
    )

-- ---- the whole

-- what the rules say of the transactions
record AreTransactions (r : Root) : Type 0 where
  few : length (names_of r.txns) ≤ 10000
  named : AllByRecursion (λ name. IsTrue (is_name name)) (names_of r.txns)
  once : (number : ℕ) → number < length (names_of r.txns) → IsTrue (is_new (take number (names_of r.txns)) (get_or (names_of r.txns) number []))
  known : AllByRecursion (λ home. IsTrue (is_node_of r home)) (homes_of r.txns)
  numbers : version_of r ≡ 1 → AllByRecursion (λ body. has_text_value body ≡ false) (bodies_of (version_of r) r.txns)

are_transactions : (r : Root) → transactions_fault (version_of r) (is_node_of r) r.txns ≡ None → AreTransactions r
are_transactions r h =
    let ts = items r.txns in
    let names = names_of r.txns in
    let rules = λ (place : ℕ). transaction_fault (version_of r) (is_node_of r) (take place names) place in
    let parts = then_none (list_fault 10000 (field_path (codes "txns")) r.txns) (each rules 0 ts) h in
    let kept = λ (i : ℕ). transaction_kept (version_of r) (is_node_of r) (take i names) i in
    record {
      few = omega (arith, length-map ts name_of, few_items 10000 r.txns (field_path (codes "txns")) parts.0);
      named = each_all rules name_of (λ name. IsTrue (is_name name)) (λ i x e. (kept i x e).0) ts 0 parts.1;
      once = λ number lt.
          let within : number < length ts = omega (arith, length-map ts name_of) in
          let x : Data = get_or ts number null in
          let is : get_or names number [] ≡ name_of x = get_or-map name_of ts number null [] within in
          ap (is_new (take number names)) is ∙ (kept number x (each_from_0 rules ts number null parts.1 within)).1;
      known = each_all rules home_of (λ home. IsTrue (is_node_of r home)) (λ i x e. (kept i x e).2) ts 0 parts.1;
      numbers = λ first. each_all rules (body_of (version_of r)) (λ body. has_text_value body ≡ false) (λ i x e. (kept i x e).3 first) ts 0 parts.1;
    }

IsPlan-plan_in : (r : Root) → fields_fault r ≡ None → AllByRecursion IsBody (bodies_of (version_of r) r.txns) → IsPlan (plan_in r)
IsPlan-plan_in r h bodies =
    let ns = nodes_of r.nodes in
    let ss = shards_of r.shards in
    let cast = cast_of r in
    let printed = then_none _ (print_fault r.print) h in
    let scheduled = then_none _ (schedule_fault cast r.schedule) printed.0 in
    let told = then_none _ (transactions_fault (version_of r) (is_node_of r) r.txns) scheduled.0 in
    let based = then_none (version_fault r.version) (base_fault r) told.0 in
    let made = then_none _ (cluster_fault ns ss) based.1 in
    let parts = then_none (nodes_fault r.nodes) (shards_fault r.shards) made.0 in
    let is_start = starts r.nodes parts.0 in
    let placed_parts = then_none (placed node_path (topology_nodes_fault ns)) (placed shard_path (topology_shards_fault (is_among (ids ns)) ss)) made.1 in
    let none : fault_of ns ss ≡ None = no_fault ns ss placed_parts.0 placed_parts.1 in
    let few_shards : length ss ≤ 15 = omega (arith, length-map (items r.shards) shard_of, few_items 15 r.shards (field_path (codes "shards")) (then_none _ _ parts.1).0) in
    let transactions = are_transactions r told.1 in
    record {
      version = within 1 2 r.version (must_none _ (bad Shape (field_path (codes "version"))) based.0);
      layout = given_is_layout ns ss (numbered ns is_start) few_shards none;
      nodes = refl;
      nodes_once = once ns is_start (nodes_fine ns ss none);
      ends = ends_given ss (each_all shard_fault shard_of (λ s. IsTrue (is_end s.end)) end_kept (items r.shards) 0 (then_none _ _ parts.1).1);
      clocks = clocks ns is_start;
      few = transactions.few;
      homes_as_many = length-map (items r.txns) home_of ∙ sym (length-map (items r.txns) name_of);
      bodies_as_many = length-map (items r.txns) _ ∙ sym (length-map (items r.txns) name_of);
      bodies = bodies;
      numbers_alone = transactions.numbers;
      named = transactions.named;
      names_once = transactions.once;
      homes_known = transactions.known;
      few_steps = omega (arith, length-map (items r.schedule) (step_of cast), few_items 200000 r.schedule (field_path (codes "schedule")) (then_none _ _ scheduled.1).0);
      steps_known = each_all (step_fault cast) (step_of cast) (IsStep (length (names_of r.txns)) (layout_of r)) (step_known (names_of r.txns) (layout_of r)) (items r.schedule) 0 (then_none _ _ scheduled.1).1;
    }

-- what stands for the plan of fields that break no rule, with bodies that keep theirs
pub sound_as : (r : Root) (plan : Content) → fields_fault r ≡ None → AllByRecursion IsBody plan.bodies → plan ≡ plan_in r → IsPlan plan
sound_as r plan none bodies says =
    subst IsPlan (sym says) (IsPlan-plan_in r none (subst (λ (p : Content). AllByRecursion IsBody p.bodies) says bodies))

-- what a call that reads data answers
pub record Answered (d : Data) (r : Result Content PlanError) : Type 0 where
  pub plan : Gives (document_fault d) (λ plan. plan ≡ plan_of d) r
  pub sound : IfOk r IsPlan
  pub built : IfErr r IsOfRule

-- the root is as it must be, and its fields are these
pub answered : (d : Data) (root : Root) (r : Result Content PlanError) → root_fault d ≡ None → root ≡ root_of d (get (codes "print") d) → Gives (fields_fault root) (λ plan. plan ≡ plan_in root) r
    → IfOk r IsPlan → Answered d r
answered d root r none same h sound =
    let its = root_of d (get (codes "print") d) in
    let given = given_behind (root_fault d) (fields_fault its) (λ plan. plan ≡ plan_of d) r none (given_same (fields_fault root) (fields_fault its) (plan_in root) (plan_in its) r (ap fields_fault same) (ap plan_in same) h) in
    record { plan = given; sound = sound; built = given_of_rule d (λ (plan : Content). plan ≡ plan_of d) r given }
