-- A document makes cases: what its rules ask of a transaction is what those of a case do, and more.
use Rattle.std.proofs.Common.{◌≡◌, ℕ, ◌+◌, List, [], ◌∷◌, length, take, map, codes, true, Option, None, Some, refl, sym, ap, ◌∙◌}
use Rattle.std.specs.Prelude.{nat_le}
use Rattle.std.proofs.lemmas.List.{length-map}
use Rattle.serde_json.specs.Data.{Data}
use Rattle.serde_json.specs.Find.{get}
use Rattle.acc_base.specs.Faults.{◌then◌, each}
use Rattle.acc_base.proofs.Faults.{both_none, must_kept, must_none, then_none}
use Rattle.acc_schedule.specs.declared.error.PlanKind.TheVariants.{Limit}
use Rattle.acc_schedule.specs.Content.{Content}
use Rattle.acc_schedule.specs.Document.{base_fault, cast_of, document_fault, is_node_of, print_fault, Root, root_fault, root_of, txns, version_fault, Means}
use Rattle.acc_schedule.specs.Faults.{bad}
use Rattle.acc_schedule.specs.Fields.{field, items, list_fault, number, object_fault}
use Rattle.acc_schedule.specs.Paths.{field_path, item_path, part_path}
use Rattle.acc_schedule.specs.Steps.{schedule_fault}
use Rattle.acc_schedule.specs.Transactions.{bodies_of, body_fault, body_of, home_fault, name_fault, name_of, names_of, transaction_fault, transactions_fault}
use Rattle.acc_schedule.proofs.AnswerFacts.{same_json}
use Rattle.acc_schedule.proofs.FieldFacts.{items_list-items_of}
use Rattle.acc_report_line.specs.declared.line.Line.{Line}
use Rattle.acc_report_reader.specs.Report.{IsReport}
use Rattle.acc_audit.specs.Cases as audited
use Rattle.acc_audit.specs.Cases.{case_fault, MeansCase}
use Rattle.acc_audit_laws.specs.Made.{case_of, IsMadeOf, transaction_of}

-- a rule of each element, where another rule of what is made of it follows
each_of : {X Y E : Type 0} (rule : ℕ → X → Option E) (other : ℕ → Y → Option E) (make : X → Y) (place : ℕ) (xs : List X)
    → ((i : ℕ) (x : X) → rule i x ≡ None → other i (make x) ≡ None) → each rule place xs ≡ None → each other place (map make xs) ≡ None
each_of rule other make place [] follows h = refl
each_of rule other make place (x ∷ xs) follows h =
    let parts = then_none (rule place x) (each rule (place + 1) xs) h in
    both_none (other place (make x)) (each other (place + 1) (map make xs)) (follows place x parts.0) (each_of rule other make (place + 1) xs follows parts.1)

map_twice : {X Y Z : Type 0} (f : Y → Z) (g : X → Y) (h : X → Z) (xs : List X) → ((x : X) → f (g x) ≡ h x) → map f (map g xs) ≡ map h xs
map_twice f g h [] same = refl
map_twice f g h (x ∷ xs) same = λ i. same x i ∷ map_twice f g h xs same i

module _ (d : Data) (report : List ℕ) where
  abbrev c : Data
  c = case_of d report

  abbrev r : Root
  r = root_of d (get (codes "print") d)

  version_same : field (codes "version") c ≡ field (codes "version") d
  version_same = refl

  items_are : items (audited.txns c) ≡ map transaction_of (items (txns d))
  items_are = items_list-items_of (map transaction_of (items (txns d)))

  pub names_are : names_of (audited.txns c) ≡ names_of (txns d)
  names_are = ap (map name_of) items_are ∙ map_twice name_of transaction_of name_of (items (txns d)) (λ x. refl)

  pub bodies_are : bodies_of (audited.version_of c) (audited.txns c) ≡ bodies_of (number (field (codes "version") d)) (txns d)
  bodies_are =
      ap (map (body_of (number (field (codes "version") d)))) items_are
      ∙ map_twice (body_of (number (field (codes "version") d))) transaction_of (body_of (number (field (codes "version") d))) (items (txns d)) (λ x. refl)

  -- what a document's rules say of its parts
  record Kept : Type 0 where
    version : version_fault (field (codes "version") d) ≡ None
    transactions : transactions_fault (number (field (codes "version") d)) (is_node_of r) (txns d) ≡ None

  kept : document_fault d ≡ None → Kept
  kept h =
      let fields = (then_none (root_fault d) _ h).1 in
      let fourth = (then_none _ (print_fault r.print) fields).0 in
      let third = (then_none _ (schedule_fault (cast_of r) r.schedule) fourth).0 in
      let second = then_none (version_fault r.version then base_fault r) (transactions_fault (number r.version) (is_node_of r) r.txns) third in
      record { version = (then_none (version_fault r.version) (base_fault r) second.0).0; transactions = second.1 }

  abbrev v : ℕ
  v = number (field (codes "version") d)

  one_kept : (names : List (List ℕ)) (place : ℕ) (x : Data) → transaction_fault v (is_node_of r) names place x ≡ None
      → audited.transaction_fault v names place (transaction_of x) ≡ None
  one_kept names place x h =
      let body = then_none _ (body_fault v (part_path (codes "txns") place (codes "text")) (field (codes "text") x)) h in
      let home = then_none _ (home_fault (is_node_of r) (part_path (codes "txns") place (codes "node")) (field (codes "node") x)) body.0 in
      let named =
      then_none (object_fault (codes "name" ∷ codes "node" ∷ codes "text" ∷ []) [] (item_path (codes "txns") place) x)
      (name_fault names (part_path (codes "txns") place (codes "name")) (field (codes "name") x)) home.0 in
      both_none _ (body_fault v (part_path (codes "txns") place (codes "text")) (field (codes "text") x)) named.1 body.1

  all_kept : Kept → audited.transactions_fault v (audited.txns c) ≡ None
  all_kept k =
      let parts = then_none (list_fault 10000 (field_path (codes "txns")) (txns d)) _ k.transactions in
      let few : nat_le (length (items (txns d))) 10000 ≡ true = must_none _ (bad Limit (field_path (codes "txns"))) (then_none _ _ parts.0).1 in
      both_none (list_fault 10000 (field_path (codes "txns")) (audited.txns c)) _
      (must_kept (nat_le (length (items (audited.txns c))) 10000) (bad Limit (field_path (codes "txns")))
      (ap (λ (xs : List Data). nat_le (length xs) 10000) items_are ∙ ap (λ (n : ℕ). nat_le n 10000) (length-map (items (txns d)) transaction_of) ∙ few))
      (ap (λ (names : List (List ℕ)). each (λ place. audited.transaction_fault v (take place names) place) 0 (items (audited.txns c))) names_are
      ∙ ap (each (λ place. audited.transaction_fault v (take place (names_of (txns d))) place) 0) items_are
      ∙ each_of (λ place. transaction_fault v (is_node_of r) (take place (names_of (txns d))) place)
      (λ place. audited.transaction_fault v (take place (names_of (txns d))) place) transaction_of 0 (items (txns d))
      (λ place x holds. one_kept (take place (names_of (txns d))) place x holds) parts.1)

  pub case_kept : document_fault d ≡ None → case_fault c ≡ None
  case_kept h =
      let k = kept h in
      both_none _ _
      (both_none (object_fault (codes "report" ∷ codes "txns" ∷ codes "version" ∷ []) [] [] c then version_fault (field (codes "version") c)) _ k.version (all_kept k))
      refl

pub made_case : (document report bytes : List ℕ) (plan : Content) (lines : List Line) → Means document plan → IsReport report lines → IsMadeOf document report bytes
    → MeansCase bytes plan.names plan.bodies lines
made_case document report bytes plan lines means is made =
    let same : made.said ≡ means.json = same_json document made.said means.json made.document_reads means.reads in
    let d : Data = means.json in
    record {
      utf8 = made.utf8;
      json = case_of d report;
      reads = made.reads ∙ ap (λ (k : Data). Some (case_of k report)) same;
      says =
          record {
            keeps_rules = case_kept d report means.keeps_rules;
            says_names = ap (λ (p : Content). p.names) means.says ∙ sym (names_are d report);
            says_bodies = ap (λ (p : Content). p.bodies) means.says ∙ sym (bodies_are d report);
            says_lines = is;
          };
    }
