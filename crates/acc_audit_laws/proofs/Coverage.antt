-- Decisions name what comes before.
use Rattle.std.proofs.Common.{◌≡◌, ℕ, List, Bool, true, false, not, ◌&&◌, refl, sym, ap, ap₂, ◌∙◌}
use Rattle.std.specs.List.{list_any}
use Rattle.std.specs.Str.{bytes_eq}
use Rattle.acc_txn.specs.declared.parts.BodyParts.{BodyParts}
use Rattle.acc_report_line.specs.declared.line.Line.{Line}
use Rattle.acc_report_line.specs.declared.line.Line.TheVariants.{Decide}
use Rattle.acc_audit.specs.Rules.{is_missed, KeepsRules}
use Rattle.acc_audit_laws.specs.Meaning.{LinesCover}
use Rattle.acc_audit_laws.proofs.Kept.{among_all, test_kept}

pub lines_cover : (names : List (List ℕ)) (bodies : List BodyParts) (lines : List Line) → KeepsRules names bodies lines → LinesCover names bodies lines
lines_cover names bodies lines keeps place name t path deps other u stands decided below apart clash = by_test (list_any (bytes_eq other) deps) refl
  where
    by_test : (b : Bool) → list_any (bytes_eq other) deps ≡ b → b ≡ true
    by_test true is = refl
    by_test false is =
        let missed : is_missed names bodies name t deps (Decide other u decided.path decided.deps) ≡ true = ap₂ ◌&&◌ (ap₂ ◌&&◌ (ap₂ ◌&&◌ below (ap not apart)) clash) (ap not is) in
        sym (test_kept names bodies lines place (Decide name t path deps) 3 keeps stands)
        ∙ among_all lines decided.place (Decide other u decided.path decided.deps) (is_missed names bodies name t deps) decided.stands missed
