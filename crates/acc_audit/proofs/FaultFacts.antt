-- The first rule that is broken, and the first line that breaks one.
use Rattle.std.proofs.Common.{◌≡◌, ℕ, zero, suc, ◌+◌, ◌-◌, ◌<◌, ◌≤◌, ◌⊎◌, inl, inr, List, [], ◌∷◌, length, take, reverse, get_or, Bool, true, false, Option, Some, None, slice_get, refl, sym, ap, ◌∙◌, arith}
use Rattle.std.proofs.lemmas.Bool.{true≢false, cases_lt}
use Rattle.std.proofs.lemmas.List.{take_more, reverse-append}
use Rattle.std.proofs.lemmas.Option.{slice_get-get_or, slice_get_past}
use Rattle.acc_txn.specs.declared.parts.BodyParts.{BodyParts}
use Rattle.acc_report_line.specs.declared.line.Line.{Line}
use Rattle.acc_audit.specs.Fronts.{before}
use Rattle.acc_audit.specs.Rules.{broken_by, broken_at, no_line, first_broken, is_last, Breaks, IsFirstFault, KeepsRules}

-- ---- rules

-- the first test that holds, and that none before it does
pub record IsFirstBroken (tests : List Bool) (from rule : ℕ) : Type 0 where
  pub least : from ≤ rule
  pub here : get_or tests (rule - from) false ≡ true
  pub none_before : (k : ℕ) → k + from < rule → get_or tests k false ≡ false

pub first_is_broken : (tests : List Bool) (from rule : ℕ) → first_broken from tests ≡ Some rule → IsFirstBroken tests from rule
first_is_broken [] from rule h = absurd cc
first_is_broken (true ∷ tests) from rule h =
    let same : from ≡ rule = same_one from rule h in
    record {
      least = omega (arith, same);
      here = ap (λ k. get_or (true ∷ tests) k false) (none_left from rule same);
      none_before = λ k low. absurd (omega (arith, same));
    }
  where
    same_one : (a b : ℕ) → Some a ≡ Some b → a ≡ b
    same_one a b e = cc

    none_left : (a b : ℕ) → a ≡ b → b - a ≡ 0
    none_left a b e = omega (arith, e)
first_is_broken (false ∷ tests) from rule h =
    let later = first_is_broken tests (from + 1) rule h in
    record {
      least = omega (arith, later.least);
      here = ap (λ k. get_or (false ∷ tests) k false) (one_less from rule later.least) ∙ later.here;
      none_before = none later;
    }
  where
    one_less : (a b : ℕ) → a + 1 ≤ b → b - a ≡ suc (b - (a + 1))
    one_less a b le = omega (arith, le)

    none : IsFirstBroken tests (from + 1) rule → (k : ℕ) → k + from < rule → get_or (false ∷ tests) k false ≡ false
    none found zero low = refl
    none found (suc k) low = found.none_before k (omega (arith, low))

pub none_is_broken : (tests : List Bool) (from : ℕ) → first_broken from tests ≡ None → (k : ℕ) → get_or tests k false ≡ false
none_is_broken [] from h k = empty k
  where
    empty : (k : ℕ) → get_or {A = Bool} [] k false ≡ false
    empty zero = refl
    empty (suc k) = refl
none_is_broken (true ∷ tests) from h k = absurd cc
none_is_broken (false ∷ tests) from h zero = refl
none_is_broken (false ∷ tests) from h (suc k) = none_is_broken tests (from + 1) h k

-- ---- lines

module _ (names : List (List ℕ)) (bodies : List BodyParts) (lines : List Line) where
  -- no line before this place breaks a rule
  abbrev pub KeptBefore : ℕ → Type 0
  KeptBefore place = (earlier rule : ℕ) → earlier < place → Breaks names bodies lines earlier rule → ⊥

  abbrev pub tests_at : ℕ → Line → List Bool
  tests_at place line = broken_by names bodies lines (before lines place) (is_last lines place) line

  at_line : (place : ℕ) (line : Line) → place < length lines → line ≡ get_or lines place line → broken_at names bodies lines place (slice_get lines place) ≡ tests_at place line
  at_line place line within is = ap (broken_at names bodies lines place) (slice_get-get_or lines place line within ∙ ap Some (sym is))

  pub kept_more : (place : ℕ) (line : Line) → place < length lines → line ≡ get_or lines place line → KeptBefore place → None ≡ first_broken 1 (tests_at place line) → KeptBefore (place + 1)
  kept_more place line within is kept none earlier rule low breaks = by_place (cases_lt earlier place)
    where
      by_place : (earlier < place) ⊎ (place ≤ earlier) → ⊥
      by_place (inl less) = kept earlier rule less breaks
      by_place (inr more) =
          let same : earlier ≡ place = omega (arith, more, low) in
          let here : get_or (broken_at names bodies lines place (slice_get lines place)) (rule - 1) false ≡ true =
          ap (λ p. get_or (broken_at names bodies lines p (slice_get lines p)) (rule - 1) false) (sym same) ∙ breaks.1 in
          true≢false (sym here ∙ ap (λ (tests : List Bool). get_or tests (rule - 1) false) (at_line place line within is) ∙ none_is_broken (tests_at place line) 1 (sym none) (rule - 1))

  pub first_fault : (place rule : ℕ) (line : Line) → place < length lines → line ≡ get_or lines place line → KeptBefore place → Some rule ≡ first_broken 1 (tests_at place line) → IsFirstFault names bodies lines place rule
  first_fault place rule line within is kept found =
      let first = first_is_broken (tests_at place line) 1 rule (sym found) in
      let at = at_line place line within is in
      record {
        broken = (first.least, ap (λ (tests : List Bool). get_or tests (rule - 1) false) at ∙ first.here);
        least_line = kept;
        least_rule = λ other low breaks. true≢false (sym breaks.1 ∙ ap (λ (tests : List Bool). get_or tests (other - 1) false) at ∙ first.none_before (other - 1) (lower other low breaks.0));
      }
    where
      lower : (other : ℕ) → other < rule → 1 ≤ other → other - 1 + 1 < rule
      lower other low positive = omega (arith, low, positive)

  -- where there are lines, and none of them breaks a rule
  pub all_kept : (place : ℕ) → 0 < length lines → length lines ≤ place → KeptBefore place → KeepsRules names bodies lines
  all_kept place some all kept earlier rule breaks = by_place (cases_lt earlier (length lines))
    where
      no_tests : (ls : List Line) (p k : ℕ) → 0 < length ls → get_or (no_line ls p) k false ≡ false
      no_tests [] p k h = absurd (omega arith)
      no_tests (l ∷ ls) p zero h = refl
      no_tests (l ∷ ls) p (suc k) h = refl

      by_place : (earlier < length lines) ⊎ (length lines ≤ earlier) → ⊥
      by_place (inl less) = kept earlier rule (omega (arith, less, all)) breaks
      by_place (inr more) =
          true≢false (sym breaks.1 ∙ ap (λ (o : Option Line). get_or (broken_at names bodies lines earlier o) (rule - 1) false) (slice_get_past lines earlier more) ∙ no_tests lines earlier (rule - 1) some)

-- a report without lines
pub empty_fault : (names : List (List ℕ)) (bodies : List BodyParts) (lines : List Line) → length lines ≡ 0 → IsFirstFault names bodies lines 0 7
empty_fault names bodies [] none = record {
  broken = (omega arith, refl);
  least_line = λ earlier other low breaks. absurd (omega (arith, low));
  least_rule = rules;
}
  where
    rules : (other : ℕ) → other < 7 → Breaks names bodies [] 0 other → ⊥
    rules zero low breaks = absurd (omega (arith, breaks.0))
    rules (suc zero) low breaks = true≢false (sym breaks.1)
    rules (suc (suc zero)) low breaks = true≢false (sym breaks.1)
    rules (suc (suc (suc zero))) low breaks = true≢false (sym breaks.1)
    rules (suc (suc (suc (suc zero)))) low breaks = true≢false (sym breaks.1)
    rules (suc (suc (suc (suc (suc zero))))) low breaks = true≢false (sym breaks.1)
    rules (suc (suc (suc (suc (suc (suc zero)))))) low breaks = true≢false (sym breaks.1)
    rules (suc (suc (suc (suc (suc (suc (suc k))))))) low breaks = absurd (omega (arith, low))
empty_fault names bodies (line ∷ lines) none = absurd (omega (arith, none))

-- the lines before the next place
pub before-more : (lines : List Line) (place : ℕ) (line : Line) → place < length lines → line ≡ get_or lines place line → line ∷ before lines place ≡ before lines (place + 1)
before-more lines place line within is =
    ap (λ (l : Line). l ∷ before lines place) is
    ∙ sym (ap reverse (take_more lines place line within) ∙ reverse-append (take place lines) (get_or lines place line ∷ []))
