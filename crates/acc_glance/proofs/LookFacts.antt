-- A document with looks: its rules one after another, and what its bytes give.
use Rattle.std.proofs.Common.{◌≡◌, ◌⊎◌, ℕ, ◌≤◌, true, false, List, ◌∷◌, [], length, Option, Some, None, unwrap_or, option_map, Result, Ok, Err, IfOk, IfErr, refl, sym, ap, subst, ◌∙◌, inl, inr}
use Rattle.std.specs.Prelude.{IsSome, codes}
use Rattle.std.proofs.lemmas.Bool.{and_parts, leb-true}
use Rattle.std.proofs.lemmas.Option.{none-some, same_Some}
use Rattle.serde_json.specs.Data.{Data}
use Rattle.acc_base.specs.Faults.{◌then◌, each, must}
use Rattle.acc_base.proofs.Faults.{both_none, each_all, must_none, then_none}
use Rattle.acc_schedule.specs.declared.error.PlanKind.{PlanKind}
use Rattle.acc_schedule.specs.declared.error.PlanKind.TheVariants.{Shape, Limit}
use Rattle.acc_schedule.specs.declared.error.PlanError.{PlanError}
use Rattle.acc_schedule.specs.declared.error.PlanError.TheVariants.{Bad, OutOfMemory}
use Rattle.acc_schedule.specs.Content.{Content}
use Rattle.acc_schedule.specs.Document.{document_fault, IsNoJson, IsRefused, Reads}
use Rattle.acc_schedule.specs.Faults.{Fault, Gives, IsFault, bad}
use Rattle.acc_schedule.specs.Fields.{field, is_from_to, is_number_from_to, is_whole, items, natural, number, object_fault}
use Rattle.acc_schedule.specs.Paths.{item_path, part_path}
use Rattle.acc_schedule.proofs.AnswerFacts.{same_json}
use Rattle.acc_document_fields.proofs.EachFacts.{before, behind}
use Rattle.acc_glance.specs.declared.looks.Look.{Look}
use Rattle.acc_glance.specs.Documents.{at_fault, glances, key_fault, listed_fault, look_fault, look_of, looks_document_fault, looks_in, plan_in, run_in, table_fault, AreInTime, AreReadLooks, BreaksLooks, IsLooksCause, MeansLooks}

-- ---- the rules one after another

abbrev pub each_fault : ℕ → Data → Fault
each_fault steps d = each (look_fault steps) 0 (items (field glances d))

pub listed_fails : (d : Data) (e : PlanError) → IsFault (listed_fault d) e → IsFault (looks_document_fault d) e
listed_fails d e h =
    before (listed_fault d then document_fault (run_in d)) (each_fault (length (plan_in d).steps) d) e (before (listed_fault d) (document_fault (run_in d)) e h)

pub run_fails : (d : Data) (e : PlanError) → listed_fault d ≡ None → IsFault (document_fault (run_in d)) e → IsFault (looks_document_fault d) e
run_fails d e listed h =
    before (listed_fault d then document_fault (run_in d)) (each_fault (length (plan_in d).steps) d) e (behind (listed_fault d) (document_fault (run_in d)) e listed h)

steps_of : (d : Data) (plan : Content) (steps : ℕ) → plan ≡ plan_in d → steps ≡ length plan.steps → steps ≡ length (plan_in d).steps
steps_of d plan steps says counts = counts ∙ ap (λ (p : Content). length p.steps) says

pub look_fails : (d : Data) (ds : List Data) (plan : Content) (steps : ℕ) (e : PlanError) → listed_fault d ≡ None → ds ≡ items (field glances d) → document_fault (run_in d) ≡ None
    → plan ≡ plan_in d → steps ≡ length plan.steps → IsFault (each (look_fault steps) 0 ds) e → IsFault (looks_document_fault d) e
look_fails d ds plan steps e listed are keeps says counts h =
    behind (listed_fault d then document_fault (run_in d)) (each_fault (length (plan_in d).steps) d) e (both_none (listed_fault d) (document_fault (run_in d)) listed keeps)
    (subst (λ (n : ℕ). IsFault (each_fault n d) e) (steps_of d plan steps says counts) (subst (λ (xs : List Data). IsFault (each (look_fault steps) 0 xs) e) are h))

pub keeps_all : (d : Data) (ds : List Data) (plan : Content) (steps : ℕ) → listed_fault d ≡ None → ds ≡ items (field glances d) → document_fault (run_in d) ≡ None → plan ≡ plan_in d
    → steps ≡ length plan.steps → each (look_fault steps) 0 ds ≡ None → looks_document_fault d ≡ None
keeps_all d ds plan steps listed are keeps says counts each_keeps =
    both_none (listed_fault d then document_fault (run_in d)) (each_fault (length (plan_in d).steps) d) (both_none (listed_fault d) (document_fault (run_in d)) listed keeps)
    (ap (λ (n : ℕ). each_fault n d) (sym (steps_of d plan steps says counts)) ∙ ap (each (look_fault steps) 0) (sym are) ∙ each_keeps)

-- ---- what bytes give

pub looks_mean : (bytes : List ℕ) (d : Data) (r : Result (Content × List Look) PlanError) → Reads bytes d
    → Gives (looks_document_fault d) (λ said. (said.0 ≡ plan_in d) × (said.1 ≡ looks_in d)) r → IfOk r (λ said. MeansLooks bytes said.0 said.1)
looks_mean bytes d (Ok said) reads h = record { utf8 = reads.utf8; json = d; reads = reads.reads; keeps_rules = h.0; says_plan = h.1.0; says_looks = h.1.1 }
looks_mean bytes d (Err error) reads h = tt

pub looks_cause : (bytes : List ℕ) (d : Data) (r : Result (Content × List Look) PlanError) → Reads bytes d
    → Gives (looks_document_fault d) (λ said. (said.0 ≡ plan_in d) × (said.1 ≡ looks_in d)) r → IfErr r (IsLooksCause bytes)
looks_cause bytes d (Ok said) reads h = tt
looks_cause bytes d (Err OutOfMemory) reads h = tt
looks_cause bytes d (Err (Bad kind path detail at)) reads h = inr (record { utf8 = reads.utf8; json = d; reads = reads.reads; first = h })

-- ---- no look begins after the last step

at_most : (steps : ℕ) (d : Data) → is_number_from_to 0 steps d ≡ true → number d ≤ steps
at_most steps d h = by (natural d) h
  where
    by : (n : Option ℕ) → unwrap_or (option_map (is_from_to 0 steps) n) false ≡ true → unwrap_or n 0 ≤ steps
    by None e = absurd cc
    by (Some n) e = leb-true n steps (and_parts _ _ e).1

begins_in_time : (steps place : ℕ) (d : Data) → look_fault steps place d ≡ None → number (field (codes "at") d) ≤ steps
begins_in_time steps place d keeps =
    let objects = object_fault (codes "at" ∷ codes "table" ∷ codes "key" ∷ []) [] (item_path glances place) d in
    let x = field (codes "at") d in
    let path = part_path glances place (codes "at") in
    let before_key = then_none (objects then at_fault steps place d then table_fault place d) (key_fault place d) keeps in
    let before_table = then_none (objects then at_fault steps place d) (table_fault place d) before_key.0 in
    let at_kept = then_none objects (at_fault steps place d) before_table.0 in
    let bounds = then_none (must (is_whole x) (bad Shape path)) (must (is_number_from_to 0 steps x) (bad Limit path)) at_kept.1 in
    at_most steps x (must_none (is_number_from_to 0 steps x) (bad Limit path) bounds.1)

pub looks_in_time : (bytes : List ℕ) (r : Result (Content × List Look) PlanError) → IfOk r (λ said. MeansLooks bytes said.0 said.1) → IfOk r (λ said. AreInTime said.0 said.1)
looks_in_time bytes (Ok said) means =
    let d = means.json in
    let steps = length (plan_in d).steps in
    subst (λ (p : Content). AreInTime p said.1) (sym means.says_plan)
    (subst (λ (ls : List Look). AreInTime (plan_in d) ls) (sym means.says_looks)
    (each_all (look_fault steps) look_of (λ (l : Look). l.at ≤ steps) (λ place x keeps. begins_in_time steps place x keeps) (items (field glances d)) 0
    (then_none (listed_fault d then document_fault (run_in d)) (each_fault steps d) means.keeps_rules).1))
looks_in_time bytes (Err error) means = tt

-- a document that says a plan and looks isn't refused
pub says_no_fault : (bytes : List ℕ) (plan : Content) (looks : List Look) (kind : PlanKind) (path : List ℕ) (detail at : ℕ) → MeansLooks bytes plan looks
    → IsLooksCause bytes (Bad kind path detail at) → ⊥
says_no_fault bytes plan looks kind path detail at says (inl no_json) = no_json.broken (says.utf8, subst (λ (o : Option Data). IsSome o) (sym says.reads) refl)
says_no_fault bytes plan looks kind path detail at says (inr breaks) =
    let json : says.json ≡ breaks.json = same_json bytes says.json breaks.json says.reads breaks.reads in
    none-some _ (sym says.keeps_rules ∙ ap looks_document_fault json ∙ breaks.first)

no_json_breaks : (bytes : List ℕ) (a b : PlanError) → IsNoJson bytes a → BreaksLooks bytes b → ⊥
no_json_breaks bytes a b no_json breaks = no_json.broken (breaks.utf8, subst (λ (o : Option Data). IsSome o) (sym breaks.reads) refl)

pub one_fault : (bytes : List ℕ) (a b : PlanError) → IsNoJson bytes a ⊎ BreaksLooks bytes a → IsNoJson bytes b ⊎ BreaksLooks bytes b → a ≡ b
one_fault bytes a b (inl x) (inl y) = same_Some a b (sym x.says ∙ y.says)
one_fault bytes a b (inl x) (inr y) = absurd (no_json_breaks bytes a b x y)
one_fault bytes a b (inr x) (inl y) = absurd (no_json_breaks bytes b a y x)
one_fault bytes a b (inr x) (inr y) = same_Some a b (sym x.first ∙ ap looks_document_fault (same_json bytes x.json y.json x.reads y.reads) ∙ y.first)

-- a document says one plan, and the same looks
module _ (bytes : List ℕ) (plan other : Content) (looks other_looks : List Look) (a : MeansLooks bytes plan looks) (b : MeansLooks bytes other other_looks) where
  pub same_plan : plan ≡ other
  same_plan = a.says_plan ∙ ap plan_in (same_json bytes a.json b.json a.reads b.reads) ∙ sym b.says_plan

  pub same_looks : looks ≡ other_looks
  same_looks = a.says_looks ∙ ap looks_in (same_json bytes a.json b.json a.reads b.reads) ∙ sym b.says_looks

pub given_looks : (bytes : List ℕ) (r : Result (Content × List Look) PlanError) → IfOk r (λ said. MeansLooks bytes said.0 said.1) → IfErr r (IsLooksCause bytes)
    → (plan : Content) (looks : List Look) → MeansLooks bytes plan looks → AreReadLooks plan looks r
given_looks bytes (Ok said) means cause plan looks m =
    (same_plan bytes said.0 plan said.1 looks means m, same_looks bytes said.0 plan said.1 looks means m)
given_looks bytes (Err (Bad kind path detail at)) means cause plan looks m = says_no_fault bytes plan looks kind path detail at m cause
given_looks bytes (Err OutOfMemory) means cause plan looks m = tt

pub given_refusal : (bytes : List ℕ) (r : Result (Content × List Look) PlanError) → IfOk r (λ said. MeansLooks bytes said.0 said.1) → IfErr r (IsLooksCause bytes)
    → (error : PlanError) → IsLooksCause bytes error → IsRefused error r
given_refusal bytes r means cause OutOfMemory x = tt
given_refusal bytes (Ok said) means cause (Bad kind path detail at) x = says_no_fault bytes said.0 said.1 kind path detail at means x
given_refusal bytes (Err OutOfMemory) means cause (Bad kind path detail at) x = tt
given_refusal bytes (Err (Bad kind' path' detail' at')) means cause (Bad kind path detail at) x = one_fault bytes (Bad kind' path' detail' at') (Bad kind path detail at) cause x
