use Rattle.std.proofs.Common.{◌≡◌, ◌++◌, Some, None, false, rules, sym, ap, ◌∙◌}
use Rattle.std.specs.Prelude.{option_map}
use Rattle.acc_report_reader.specs.Fields.{piece_at, list_in, cell_in}
use Rattle.acc_report_reader.proofs.Failing.{fails}
use Rattle.acc_report_reader.proofs.Pieces.{shorter, loop_more, loop_fails, loop_ends, loop_ends_badly}
use Rattle.acc_report_reader.proofs.cells.cells.Goals as goal

pub returns-in_err-cell : goal.returns-in_err-cell
returns-in_err-cell c =
    let cut : Some (c.in-Some.first.now, c.in-Some.others.now) ≡ piece_at false c.loop-first.rest.now = cc in
    fails c.in_err-cell.field-0.0 _ (cell_in c.in-Some.first.now) _ c.from_residual.ensures.1 c.in_err-cell.ensures
    (loop_fails cell_in _ c.loop-first.cells c.loop-first.rest.now (c.in-Some.first.now, c.in-Some.others.now) c.loop-first.invariant cut)

pub loop-first-smaller : goal.loop-first-smaller
loop-first-smaller c =
    let cut : Some (c.in-Some.first.now, c.in-Some.others.now) ≡ piece_at false c.loop-first.rest.now = cc in
    shorter false c.loop-first.rest.now (c.in-Some.first.now, c.in-Some.others.now) (sym cut)

pub loop-first-preserved : goal.loop-first-preserved
loop-first-preserved c =
    let cut : Some (c.in-Some.first.now, c.in-Some.others.now) ≡ piece_at false c.loop-first.rest.now = cc in
    loop_more cell_in _ c.loop-first.cells c.loop-first.rest.now (c.in-Some.first.now, c.in-Some.others.now) c.in_ok-cell.field-0 c.loop-first.invariant cut c.in_ok-cell.ensures
    ∙ ap (λ cells. option_map (λ ys. cells ++ ys) (list_in cell_in c.in-Some.others.now)) (sym c.in_ok-push.ensures.ok)

pub returns-in_err-cell-2 : goal.returns-in_err-cell-2
returns-in_err-cell-2 c =
    let cut : None ≡ piece_at false c.loop-first.rest.now = search rules in
    fails c.in_err-cell-2.field-0.0 _ (cell_in c.loop-first.rest.now) _ c.from_residual-in_err-cell-2.ensures.1 c.in_err-cell-2.ensures
    (loop_ends_badly cell_in _ c.loop-first.cells c.loop-first.rest.now c.loop-first.invariant cut)

pub returns : goal.returns
returns c =
    let cut : None ≡ piece_at false c.loop-first.rest.now = search rules in
    loop_ends cell_in _ c.loop-first.cells c.loop-first.rest.now c.in_ok-cell-2.field-0 c.loop-first.invariant cut c.in_ok-cell-2.ensures
    ∙ ap (λ cells. Some cells) (sym c.in_ok-push-2.ensures.ok)
