-- The last pair has the greatest key.
use Rattle.std.proofs.Common.{◌∙◌, sym}
use Rattle.acc_code.proofs.Rising.{behind, rising_snoc}
use Rattle.acc_code.proofs.cells.is_behind.Goals as goal

pub returns-in-Some-clause-value : goal.returns-in-Some-clause-value
returns-in-Some-clause-value c =
    c.lt.ensures ∙ sym (behind c.args.pairs.now c.in-Some.field-0.now c.args.key.now c.pairs.ensures.rising (rw (← c.pairs.ensures.pairs) c.in-Some.ensures.value))

pub returns-in-Some-clause-rising : goal.returns-in-Some-clause-rising
returns-in-Some-clause-rising c =
    λ h cell. rising_snoc c.args.pairs.now (c.args.key.now, cell) c.pairs.ensures.rising (sym (returns-in-Some-clause-value c) ∙ h)
