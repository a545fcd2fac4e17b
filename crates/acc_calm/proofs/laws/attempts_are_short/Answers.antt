use Rattle.acc_calm.proofs.AttemptsShort.{attempts_are_short}
use Rattle.acc_calm.proofs.laws.attempts_are_short.Goals as goal

pub returns : goal.returns
returns c = attempts_are_short
