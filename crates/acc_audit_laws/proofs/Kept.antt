-- What a line that breaks no rule keeps.
use Rattle.std.proofs.Common.{◌≡◌, ℕ, suc, ◌-◌, ◌<◌, List, length, take, reverse, get_or, Bool, true, false, Option, Some, slice_get, sym, ap, ◌∙◌, arith}
use Rattle.std.specs.List.{list_any}
use Rattle.std.proofs.lemmas.Bool.{false_from_ne_true}
use Rattle.std.proofs.lemmas.List.{length-take, get_or-take}
use Rattle.std.proofs.lemmas.List.Folds.{list_any_at}
use Rattle.std.proofs.lemmas.List.Sorted.{list_any-IsPermutation, IsPermutation-reverse}
use Rattle.std.proofs.lemmas.Option.{get_or_from_slice_get, slice_get_within}
use Rattle.acc_txn.specs.declared.parts.BodyParts.{BodyParts}
use Rattle.acc_report_line.specs.declared.line.Line.{Line}
use Rattle.acc_audit.specs.Fronts.{before}
use Rattle.acc_audit.specs.Rules.{broken_by, broken_at, is_last, KeepsRules}

-- of a line that stands at a place, no test of the seven holds
pub test_kept : (names : List (List ℕ)) (bodies : List BodyParts) (lines : List Line) (place : ℕ) (line : Line) (k : ℕ) → KeepsRules names bodies lines → slice_get lines place ≡ Some line
    → get_or (broken_by names bodies lines (before lines place) (is_last lines place) line) k false ≡ false
test_kept names bodies lines place line k keeps stands =
    false_from_ne_true (get_or (broken_by names bodies lines (before lines place) (is_last lines place) line) k false) (λ broken.
    keeps place (suc k) (
      omega arith,
      ap (λ (o : Option Line). get_or (broken_at names bodies lines place o) (suc k - 1) false) stands
          ∙ ap (λ n. get_or (broken_by names bodies lines (before lines place) (is_last lines place) line) n false) (one_less k)
          ∙ broken,
    ))
  where
    one_less : (n : ℕ) → suc n - 1 ≡ n
    one_less n = omega arith

-- a line that stands before a place is among the lines before it
pub among_before : (lines : List Line) (i j : ℕ) (line : Line) (test : Line → Bool) → slice_get lines i ≡ Some line → i < j → test line ≡ true → list_any test (before lines j) ≡ true
among_before lines i j line test stands earlier passes =
    let within : i < length lines = slice_get_within lines i line stands in
    let here : get_or (take j lines) i line ≡ line = get_or-take j lines i line earlier ∙ get_or_from_slice_get lines i line line stands in
    let inside : i < length (take j lines) = omega (arith, length-take j lines, within, earlier) in
    sym (list_any-IsPermutation test (take j lines) (reverse (take j lines)) (IsPermutation-reverse (take j lines)))
    ∙ list_any_at test (take j lines) i line inside (ap test here ∙ passes)

-- and among all lines
pub among_all : (lines : List Line) (i : ℕ) (line : Line) (test : Line → Bool) → slice_get lines i ≡ Some line → test line ≡ true → list_any test lines ≡ true
among_all lines i line test stands passes =
    list_any_at test lines i line (slice_get_within lines i line stands) (ap test (get_or_from_slice_get lines i line line stands) ∙ passes)
