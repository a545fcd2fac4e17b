use Rattle.std.proofs.Common.{◌≡◌, ℕ, List, [], ◌∷◌, ◌++◌, Some, None, false, rules, sym, ap, ◌∙◌}
use Rattle.acc_report_reader.specs.Fields.{piece_at, name_in}
use Rattle.acc_report_reader.proofs.Failing.{fails}
use Rattle.acc_report_reader.proofs.Names.{names_are_pieces}
use Rattle.acc_report_reader.proofs.Options.{nothing_before}
use Rattle.acc_report_reader.proofs.Pieces.{shorter, loop_more, loop_fails, loop_ends, loop_ends_badly}
use Rattle.acc_report_reader.proofs.fields.some_names.Goals as goal

pub loop-first-init : goal.loop-first-init
loop-first-init c = ([], nothing_before _)

pub returns-in_err-_name : goal.returns-in_err-_name
returns-in_err-_name c =
    let cut : Some (c.in-Some.first.now, c.in-Some.others.now) ≡ piece_at false c.loop-first.rest.now = cc in
    fails c.in_err-_name.field-0.0 _ (name_in c.in-Some.first.now) _ c.from_residual.ensures.1 c.in_err-_name.ensures
    (loop_fails name_in _ c.loop-first.invariant.0 c.loop-first.rest.now (c.in-Some.first.now, c.in-Some.others.now) c.loop-first.invariant.1 cut)

pub loop-first-smaller : goal.loop-first-smaller
loop-first-smaller c =
    let cut : Some (c.in-Some.first.now, c.in-Some.others.now) ≡ piece_at false c.loop-first.rest.now = cc in
    shorter false c.loop-first.rest.now (c.in-Some.first.now, c.in-Some.others.now) (sym cut)

pub loop-first-preserved : goal.loop-first-preserved
loop-first-preserved c =
    let cut : Some (c.in-Some.first.now, c.in-Some.others.now) ≡ piece_at false c.loop-first.rest.now = cc in (
      c.loop-first.invariant.0 ++ c.in_ok-_name._name.now ∷ [],
      loop_more name_in _ c.loop-first.invariant.0 c.loop-first.rest.now (c.in-Some.first.now, c.in-Some.others.now) c.in_ok-_name._name.now c.loop-first.invariant.1 cut c.in_ok-_name.ensures,
    )

pub returns-in_err-_name-2 : goal.returns-in_err-_name-2
returns-in_err-_name-2 c =
    let cut : None ≡ piece_at false c.loop-first.rest.now = search rules in
    fails c.in_err-_name-2.field-0.0 _ (name_in c.loop-first.rest.now) _ c.from_residual-in_err-_name-2.ensures.1 c.in_err-_name-2.ensures
    (loop_ends_badly name_in _ c.loop-first.invariant.0 c.loop-first.rest.now c.loop-first.invariant.1 cut)

pub returns : goal.returns
returns c =
    let cut : None ≡ piece_at false c.loop-first.rest.now = search rules in
    let all : List (List ℕ) = c.loop-first.invariant.0 ++ c.in_ok-_name-2._name.now ∷ [] in
    let read = loop_ends name_in _ c.loop-first.invariant.0 c.loop-first.rest.now c.in_ok-_name-2._name.now c.loop-first.invariant.1 cut c.in_ok-_name-2.ensures in
    read ∙ ap (λ (names : List (List ℕ)). Some names) (names_are_pieces c.args.bytes.now all read ∙ sym c.of.ensures)
