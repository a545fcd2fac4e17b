use Rattle.acc_delivered.proofs.Drawn.{ballots_are_drawn}
use Rattle.acc_delivered.proofs.laws.ballots_are_drawn.Goals as goal

pub returns : goal.returns
returns c = ballots_are_drawn
