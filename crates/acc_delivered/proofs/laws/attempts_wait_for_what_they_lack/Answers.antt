use Rattle.acc_delivered.proofs.Asked.{attempts_lack}
use Rattle.acc_delivered.proofs.laws.attempts_wait_for_what_they_lack.Goals as goal

pub returns : goal.returns
returns c = attempts_lack
