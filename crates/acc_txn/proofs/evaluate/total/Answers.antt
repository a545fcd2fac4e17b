-- Where a partial sum overflows, the whole sum does.
use Rattle.std.proofs.Common.{◌∙◌, ap}
use Rattle.acc_txn.specs.Meaning.{summand, term_cell, plus}
use Rattle.acc_txn.proofs.Sums.{is_overflow, sum_overflows}
use Rattle.acc_txn.proofs.evaluate.total.Goals as goal

pub returns-in_err-total : goal.returns-in_err-total
returns-in_err-total c =
    is_overflow c.from_residual.result _ c.from_residual.ensures.0
    ∙ sum_overflows c.args.bound.now c.args.rest.now c.loop-part.part-index c.part-item.result c.loop-part.total c.term_number.result _ _
    c.loop-part-test.true c.loop-part.invariant
    (c.term_number.ensures ∙ ap (λ p. summand (term_cell c.args.bound.now p.term)) c.part-item.is)
    (c.in_err-total.ensures ∙ ap (λ p. plus c.loop-part.total p.minus c.term_number.result) c.part-item.is)
