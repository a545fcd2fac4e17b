-- Names that stand in lines, and begins.
use Rattle.std.proofs.Common.{◌≡◌, ℕ, ◌<◌, List, [], ◌∷◌, Bool, true, false, not, ◌||◌, Some, slice_get, ⊎_elim, refl, sym, ap, ◌∙◌, arith}
use Rattle.std.specs.List.{list_any, list_all}
use Rattle.std.specs.Str.{bytes_eq}
use Rattle.std.proofs.lemmas.Bool.{and_parts, cases_lt, true≢false}
use Rattle.std.proofs.lemmas.Slice.Eq.{bytes_eq-Decides}
use Rattle.acc_stamp.specs.declared.stamps.Stamp.{Stamp}
use Rattle.acc_txn.specs.declared.parts.BodyParts.{BodyParts}
use Rattle.acc_report_line.specs.declared.line.Line.{Line}
use Rattle.acc_report_line.specs.declared.line.Line.TheVariants.{Begin}
use Rattle.acc_audit.specs.Said.{names_in, begins}
use Rattle.acc_audit.specs.Fronts.{is_known}
use Rattle.acc_audit.specs.Rules.{KeepsRules}
use Rattle.acc_audit_laws.specs.Meaning.{BeginOnce, LinesKnow}
use Rattle.acc_audit_laws.proofs.Kept.{among_before, test_kept}

-- a name among names that are known is known
known_in : (names said : List (List ℕ)) (name : List ℕ) → list_all (is_known names) said ≡ true → list_any (bytes_eq name) said ≡ true → is_known names name ≡ true
known_in names [] name all any = absurd (true≢false (sym any))
known_in names (first ∷ others) name all any =
    let parts = and_parts (is_known names first) (list_all (is_known names) others) all in
    elim (bytes_eq name first) as (λ b. bytes_eq name first ≡ b → (b || list_any (bytes_eq name) others) ≡ true → is_known names name ≡ true) [
      | true ↦ λ is h. ap (is_known names) ((bytes_eq-Decides name first).0 is) ∙ parts.0
      | false ↦ λ is h. known_in names others name parts.1 h
    ] refl any

all_known : (b : Bool) → not b ≡ false → b ≡ true
all_known true h = refl
all_known false h = sym h

pub lines_know : (names : List (List ℕ)) (bodies : List BodyParts) (lines : List Line) → KeepsRules names bodies lines → LinesKnow names lines
lines_know names bodies lines keeps place line name stands said =
    known_in names (names_in line) name (all_known (list_all (is_known names) (names_in line)) (test_kept names bodies lines place line 0 keeps stands)) said

-- no begin stands before another of the same transaction
not_before : (names : List (List ℕ)) (bodies : List BodyParts) (lines : List Line) (i j : ℕ) (name : List ℕ) (a b : Stamp) → KeepsRules names bodies lines → slice_get lines i ≡ Some (Begin name a)
    → slice_get lines j ≡ Some (Begin name b) → i < j → ⊥
not_before names bodies lines i j name a b keeps first second before =
    true≢false (sym (among_before lines i j (Begin name a) (begins name) first before ((bytes_eq-Decides name name).1 refl)) ∙ test_kept names bodies lines j (Begin name b) 1 keeps second)

pub begin_once : (names : List (List ℕ)) (bodies : List BodyParts) (lines : List Line) → KeepsRules names bodies lines → BeginOnce lines
begin_once names bodies lines keeps i j name a b first second =
    ⊎_elim (λ less. absurd (not_before names bodies lines i j name a b keeps first second less)) (λ most.
    ⊎_elim (λ less. absurd (not_before names bodies lines j i name b a keeps second first less)) (λ least. omega (arith, most, least)) (cases_lt j i)) (cases_lt i j)
