-- The cell at the place that the search found.
use Rattle.std.proofs.Common.{ap, sym, subst, ◌∙◌, Option, None, unwrap_or}
use Rattle.acc_value.specs.Pairs.{IsRising}
use Rattle.acc_value.specs.declared.key.Key.{Key}
use Rattle.acc_value.specs.declared.value.Value.{Value}
use Rattle.acc_value.specs.Cells.{cell_of}
use Rattle.acc_value.proofs.Rising.{find-at, find-lacks}
use Rattle.acc_value.proofs.cells.CellList.get.Goals as goal

pub returns-in-Ok : goal.returns-in-Ok
returns-in-Ok c =
    let rises = subst (λ pairs. IsRising pairs) (sym c.as_slice-pairs.ensures) c.self.invariant in
    let found = find-at c.as_slice-pairs.result.now c.args.key.now c.in-Ok.place c.index-pairs-place.result rises c.in-Ok.ensures c.index-pairs-place.is in
    c.as_ref.ensures.value
    ∙ ap (λ (pair : Key × Option Value). pair.1) (sym c.index-pairs-place.is)
    ∙ sym (ap (λ (o : Option (Option Value)). unwrap_or o None) found)
    ∙ ap (λ cells. cell_of cells c.args.key.now) (c.as_slice-pairs.ensures ∙ c.self.view_is)

pub returns-in-Err : goal.returns-in-Err
returns-in-Err c =
    let nowhere = rw c.as_slice-pairs.ensures at c.in-Err.ensures in
    let missing = find-lacks c.self.inside.cells c.args.key.now c.in-Err.field-0 nowhere in
    sym (ap (λ (o : Option (Option Value)). unwrap_or o None) missing)
    ∙ ap (λ cells. cell_of cells c.args.key.now) c.self.view_is
