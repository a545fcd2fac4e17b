-- What the bytes of a document decide: one plan or one refusal.
use Rattle.std.proofs.Common.{◌≡◌, ◌⊎◌, ℕ, List, Option, Some, Result, Ok, Err, IfOk, IfErr, refl, sym, ap, subst, ◌∙◌, inl, inr}
use Rattle.std.specs.Prelude.{IsSome}
use Rattle.std.proofs.lemmas.Option.{none-some, same_Some}
use Rattle.serde_json.specs.Data.{Data}
use Rattle.serde_json.specs.Read.{read}
use Rattle.acc_schedule.specs.declared.error.PlanKind.{PlanKind}
use Rattle.acc_schedule.specs.declared.error.PlanError.{PlanError}
use Rattle.acc_schedule.specs.declared.error.PlanError.TheVariants.{Bad, OutOfMemory}
use Rattle.acc_schedule.specs.Content.{Content}
use Rattle.acc_schedule.specs.Faults.{Gives}
use Rattle.acc_schedule.specs.Document.{document_fault, plan_of, Breaks, IsCause, IsNoJson, IsRead, IsRefused, Means, Reads}

-- a document has one data
pub same_json : (bytes : List ℕ) (d e : Data) → read bytes ≡ Some d → read bytes ≡ Some e → d ≡ e
same_json bytes d e a b = same_Some d e (sym a ∙ b)

pub same_plan : (bytes : List ℕ) (plan other : Content) → Means bytes plan → Means bytes other → plan ≡ other
same_plan bytes plan other a b = a.says ∙ ap plan_of (same_json bytes a.json b.json a.reads b.reads) ∙ sym b.says

-- a document that says a plan isn't refused
pub says_no_fault : (bytes : List ℕ) (plan : Content) (kind : PlanKind) (path : List ℕ) (detail at : ℕ) → Means bytes plan → IsCause bytes (Bad kind path detail at) → ⊥
says_no_fault bytes plan kind path detail at says (inl no_json) = no_json.broken (says.utf8, subst (λ (o : Option Data). IsSome o) (sym says.reads) refl)
says_no_fault bytes plan kind path detail at says (inr breaks) =
    let json : says.json ≡ breaks.json = same_json bytes says.json breaks.json says.reads breaks.reads in
    none-some _ (sym says.keeps_rules ∙ ap document_fault json ∙ breaks.first)

no_json_breaks : (bytes : List ℕ) (a b : PlanError) → IsNoJson bytes a → Breaks bytes b → ⊥
no_json_breaks bytes a b no_json breaks = no_json.broken (breaks.utf8, subst (λ (o : Option Data). IsSome o) (sym breaks.reads) refl)

pub one_fault : (bytes : List ℕ) (a b : PlanError) → IsNoJson bytes a ⊎ Breaks bytes a → IsNoJson bytes b ⊎ Breaks bytes b → a ≡ b
one_fault bytes a b (inl x) (inl y) = same_Some a b (sym x.says ∙ y.says)
one_fault bytes a b (inl x) (inr y) = absurd (no_json_breaks bytes a b x y)
one_fault bytes a b (inr x) (inl y) = absurd (no_json_breaks bytes b a y x)
one_fault bytes a b (inr x) (inr y) = same_Some a b (sym x.first ∙ ap document_fault (same_json bytes x.json y.json x.reads y.reads) ∙ y.first)

pub given_read : (bytes : List ℕ) (r : Result Content PlanError) → IfOk r (Means bytes) → IfErr r (IsCause bytes) → (plan : Content) → Means bytes plan → IsRead plan r
given_read bytes (Ok other) means cause plan m = same_plan bytes other plan means m
given_read bytes (Err (Bad kind path detail at)) means cause plan m = says_no_fault bytes plan kind path detail at m cause
given_read bytes (Err OutOfMemory) means cause plan m = tt

pub given_refuses : (bytes : List ℕ) (r : Result Content PlanError) → IfOk r (Means bytes) → IfErr r (IsCause bytes) → (error : PlanError) → IsCause bytes error → IsRefused error r
given_refuses bytes r means cause OutOfMemory x = tt
given_refuses bytes (Ok plan) means cause (Bad kind path detail at) x = says_no_fault bytes plan kind path detail at means x
given_refuses bytes (Err OutOfMemory) means cause (Bad kind path detail at) x = tt
given_refuses bytes (Err (Bad kind' path' detail' at')) means cause (Bad kind path detail at) x = one_fault bytes (Bad kind' path' detail' at') (Bad kind path detail at) cause x

-- ---- what the reader of the data answers

pub plan_means : (bytes : List ℕ) (d : Data) (r : Result Content PlanError) → Reads bytes d → Gives (document_fault d) (λ plan. plan ≡ plan_of d) r → IfOk r (Means bytes)
plan_means bytes d (Ok plan) reads h = record { utf8 = reads.utf8; json = d; reads = reads.reads; keeps_rules = h.0; says = h.1 }
plan_means bytes d (Err error) reads h = tt

pub plan_cause : (bytes : List ℕ) (d : Data) (r : Result Content PlanError) → Reads bytes d → Gives (document_fault d) (λ plan. plan ≡ plan_of d) r → IfErr r (IsCause bytes)
plan_cause bytes d (Ok plan) reads h = tt
plan_cause bytes d (Err OutOfMemory) reads h = tt
plan_cause bytes d (Err (Bad kind path detail at)) reads h = inr (record { utf8 = reads.utf8; json = d; reads = reads.reads; first = h })
