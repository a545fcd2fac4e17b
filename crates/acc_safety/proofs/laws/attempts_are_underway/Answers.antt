use Rattle.acc_safety.proofs.Underway.{underway_is}
use Rattle.acc_safety.proofs.laws.attempts_are_underway.Goals as goal

pub returns : goal.returns
returns c = underway_is
