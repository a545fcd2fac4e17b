use Rattle.acc_left_laws.proofs.Accepted.{journals_accepted}
use Rattle.acc_left_laws.proofs.laws.left_journals_are_accepted.Goals as goal

pub returns : goal.returns
returns c = journals_accepted
