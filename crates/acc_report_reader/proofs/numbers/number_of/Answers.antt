use Rattle.std.proofs.Common.{arith, ◌∙◌}
use Rattle.acc_token.proofs.DigitFacts.{overflows, complete}
use Rattle.acc_report_reader.proofs.numbers.number_of.Goals as goal

pub returns-in_err-checked_mul : goal.returns-in_err-checked_mul
returns-in_err-checked_mul c =
    c.from_residual.ensures
    ∙ overflows c.args.digits.now c.loop-digit.digit-index c.loop-digit.number 0 c.requires (omega arith) c.loop-digit.invariant.goes_on
    (λ lt. c.in_err-checked_mul.ensures (omega arith)) (omega arith)

pub returns-in_err-number : goal.returns-in_err-number
returns-in_err-number c =
    c.from_residual-in_err-number.ensures
    ∙ overflows c.args.digits.now c.loop-digit.digit-index c.loop-digit.number c.from.result c.requires (omega arith) c.loop-digit.invariant.goes_on
    (λ lt. c.in_err-number.ensures (omega arith)) (omega arith)

pub returns : goal.returns
returns c = complete c.args.digits.now c.loop-digit.digit-index c.loop-digit.number (omega arith) c.loop-digit.invariant.fits c.loop-digit.invariant.goes_on
