use Rattle.acc_code.proofs.Shortness.{short_outcome}
use Rattle.acc_code.proofs.laws.what_fits_is_short.Goals as goal

pub returns-clause-cells : goal.returns-clause-cells
returns-clause-cells c = λ cells fits. fits.short

pub returns-clause-outcomes : goal.returns-clause-outcomes
returns-clause-outcomes c = λ o fits. short_outcome o fits
