-- The names stand for the cells of their keys.
use Rattle.std.proofs.Common.{◌≡◌, IfOk, ap, subst, ◌∙◌}
use Rattle.acc_value.specs.Cells.{cell_of}
use Rattle.acc_txn.specs.Meaning.{bound_cells, outcome_with}
use Rattle.acc_txn.proofs.evaluate.outcome.Goals as goal

pub returns : goal.returns
returns c =
    subst (λ bound. IfOk c.decide.result (λ o. o ≡ outcome_with bound c.args.parts.now (cell_of c.args.cells.now)))
    (c.deref.ensures.value ∙ c.in_ok-bound.ensures ∙ ap (λ lets. bound_cells lets (cell_of c.args.cells.now)) c.as_slice.ensures)
    c.decide.ensures
