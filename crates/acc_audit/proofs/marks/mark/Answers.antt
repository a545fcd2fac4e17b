use Rattle.std.proofs.Common.{◌≡◌, ℕ, ◌+◌, ◌<◌, List, [], length, map, None, Some, false, get_or, length-set, refl, subst, sym, ap, ◌∙◌, arith}
use Rattle.std.specs.List.{list_all}
use Rattle.std.proofs.lemmas.List.Folds.{list_all_at}
use Rattle.acc_audit.specs.Fronts.{is_known}
use Rattle.acc_audit.proofs.LeftFacts.{all_so_far, left_more, left_none}
use Rattle.acc_audit.proofs.NumberFacts.{known_as, numbered}
use Rattle.acc_audit.proofs.MarkFacts.{marked_by, marked_more}
use Rattle.acc_audit.proofs.marks.mark.Goals as goal

pub loop-name-init : goal.loop-name-init
loop-name-init c = (0, c.copy-rest.ensures, refl, λ (was : List ℕ → ℕ) are. are, c.requires.as_many)

pub returns-in-None-clause-known : goal.returns-in-None-clause-known
returns-in-None-clause-known c =
    let names : List (List ℕ) = c.args.numbers.now in
    let deps : List (List ℕ) = c.args.names.now in
    let i : ℕ = c.loop-name.invariant.0 in
    let next = left_more deps c.loop-name.rest c.in-Some.others i c.in-Some.name.now c.loop-name.invariant.1 c.in-Some.ensures in
    let unknown : is_known names (get_or deps i []) ≡ false = ap (is_known names) (sym next.1) ∙ known_as names c.in-Some.name.now None c.in-None.ensures in
    sym (list_all_at (is_known names) deps i [] next.0 unknown)

pub loop-name-smaller : goal.loop-name-smaller
loop-name-smaller c = let long = ap length c.in-Some.ensures in omega (arith, long)

pub set_mark-requires : goal.set_mark-requires
set_mark-requires c =
    subst (λ (n : ℕ). c.in-Some-place.number < n) (sym c.loop-name.invariant.4) (numbered c.args.numbers.now c.in-Some.name.now c.in-Some-place.number (sym c.in-Some-place.ensures)).0

pub loop-name-preserved : goal.loop-name-preserved
loop-name-preserved c =
    let names : List (List ℕ) = c.args.numbers.now in
    let deps : List (List ℕ) = c.args.names.now in
    let i : ℕ = c.loop-name.invariant.0 in
    let name : List ℕ = c.in-Some.name.now in
    let next = left_more deps c.loop-name.rest c.in-Some.others i name c.loop-name.invariant.1 c.in-Some.ensures in (
      i + 1,
      next.2,
      all_so_far (is_known names) deps i name next.0 next.1 c.loop-name.invariant.2 (known_as names name (Some c.in-Some-place.number) c.in-Some-place.ensures),
      λ (was : List ℕ → ℕ) are.
          c.set_mark.ensures ∙ marked_more names deps i c.in-Some-place.number c.args.mark was name c.loop-name.marks.items c.requires.differ (sym c.in-Some-place.ensures) next.0 next.1 (c.loop-name.invariant.3 was are),
      ap length c.set_mark.ensures ∙ length-set c.loop-name.marks.items c.in-Some-place.number c.args.mark ∙ c.loop-name.invariant.4,
    )

pub returns-clause-known : goal.returns-clause-known
returns-clause-known c =
    let all = left_none c.args.names.now c.loop-name.rest c.loop-name.invariant.0 c.loop-name.invariant.1 c.in_default.ensures in
    sym c.loop-name.invariant.2 ∙ ap (list_all (is_known c.args.numbers.now)) all

pub returns-clause-marked : goal.returns-clause-marked
returns-clause-marked c = λ yes (was : List ℕ → ℕ) are.
    let all = left_none c.args.names.now c.loop-name.rest c.loop-name.invariant.0 c.loop-name.invariant.1 c.in_default.ensures in
    c.loop-name.invariant.3 was are ∙ ap (λ (deps : List (List ℕ)). map (marked_by deps c.args.mark was) c.args.numbers.now) all
