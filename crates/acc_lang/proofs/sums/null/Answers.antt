use Rattle.acc_lang.proofs.Taking.{fits_at}
use Rattle.acc_lang.proofs.sums.null.Goals as goal

pub returns-clause-room : goal.returns-clause-room
returns-clause-room c = fits_at _ _ _ _ _ _ c.standing_of.ensures c.in_ok-check.ensures
