use Rattle.std.proofs.Common.{◌≡◌, ℕ, ◌+◌, List, [], length, get_or, false, refl, sym, ap, ◌∙◌, arith}
use Rattle.std.specs.List.{list_all}
use Rattle.std.proofs.lemmas.List.Folds.{list_all_at}
use Rattle.acc_audit.specs.Fronts.{is_known}
use Rattle.acc_audit.proofs.LeftFacts.{all_so_far, left_more, left_none}
use Rattle.acc_audit.proofs.numbers.has_each.Goals as goal

pub loop-name-init : goal.loop-name-init
loop-name-init c = (0, c.copy-rest.ensures, refl)

pub returns-then-not-has : goal.returns-then-not-has
returns-then-not-has c =
    let names : List (List ℕ) = c.args.names.now in
    let i : ℕ = c.loop-name.invariant.0 in
    let next = left_more names c.loop-name.rest c.in-Some.others i c.in-Some.name.now c.loop-name.invariant.1 c.in-Some.ensures in
    let unknown : is_known c.args.numbers.now (get_or names i []) ≡ false = ap (is_known c.args.numbers.now) (sym next.1) ∙ sym c.if-not-has.ensures in
    sym (list_all_at (is_known c.args.numbers.now) names i [] next.0 unknown)

pub loop-name-smaller : goal.loop-name-smaller
loop-name-smaller c = let long = ap length c.in-Some.ensures in omega (arith, long)

pub loop-name-preserved : goal.loop-name-preserved
loop-name-preserved c =
    let names : List (List ℕ) = c.args.names.now in
    let i : ℕ = c.loop-name.invariant.0 in
    let next = left_more names c.loop-name.rest c.in-Some.others i c.in-Some.name.now c.loop-name.invariant.1 c.in-Some.ensures in
    (i + 1, next.2, all_so_far (is_known c.args.numbers.now) names i c.in-Some.name.now next.0 next.1 c.loop-name.invariant.2 (sym c.if-not-has.ensures))

pub returns : goal.returns
returns c =
    let all = left_none c.args.names.now c.loop-name.rest c.loop-name.invariant.0 c.loop-name.invariant.1 c.in_default.ensures in
    sym c.loop-name.invariant.2 ∙ ap (list_all (is_known c.args.numbers.now)) all
