-- The cell of the pair that the search found, or else that of the store.
use Rattle.std.proofs.Common.{ap, sym, ◌∙◌, Option, unwrap_or}
use Rattle.acc_value.specs.declared.key.Key.{Key}
use Rattle.acc_value.specs.declared.value.Value.{Value}
use Rattle.acc_value.specs.Cells.{applied}
use Rattle.acc_value.proofs.Rising.{find-at, find-lacks}
use Rattle.acc_record.specs.Shelf.{cell_at}
use Rattle.acc_opening.proofs.layer.cell.Goals as goal

pub returns-in-Ok : goal.returns-in-Ok
returns-in-Ok c =
    let cells = c.args.cells.now in
    let found = find-at c.pairs-pairs.result.now c.args.key.now c.in-Ok.place c.index-pairs-place.result (rw (← c.pairs-pairs.ensures.pairs) at c.pairs-pairs.ensures.rising) c.in-Ok.ensures c.index-pairs-place.is in
    c.as_ref.ensures.value
    ∙ ap (λ (p : Key × Option Value). p.1) (sym c.index-pairs-place.is)
    ∙ sym (ap (λ (o : Option (Option Value)). unwrap_or o (cell_at cells c.args.key.now)) found)
    ∙ ap (λ pairs. applied (cell_at cells) pairs c.args.key.now) c.pairs-pairs.ensures.pairs

pub returns-in-Err : goal.returns-in-Err
returns-in-Err c =
    let cells = c.args.cells.now in
    let missing = find-lacks c.pairs-pairs.result.now c.args.key.now c.in-Err.field-0 c.in-Err.ensures in
    c.get.ensures
    ∙ sym (ap (λ (o : Option (Option Value)). unwrap_or o (cell_at cells c.args.key.now)) missing)
    ∙ ap (λ pairs. applied (cell_at cells) pairs c.args.key.now) c.pairs-pairs.ensures.pairs
