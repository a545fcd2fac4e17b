use Rattle.acc_pasts.proofs.Slowed.{slow_is_told}
use Rattle.acc_pasts.proofs.slowing.slows_are_told.Goals as goal

pub returns : goal.returns
returns c = slow_is_told
