use Rattle.acc_safety.proofs.DrawFacts.{stamps_are_drawn_once}
use Rattle.acc_safety.proofs.laws.stamps_are_drawn_once.Goals as goal

pub returns : goal.returns
returns c = stamps_are_drawn_once (record { rise = c.draws_rise.ensures; of_node = c.draws_are_of_node.ensures })
