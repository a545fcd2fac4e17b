use Rattle.acc_stamp.proofs.History.{draws_are_of_node}
use Rattle.acc_stamp.proofs.laws.draws_are_of_node.Goals as goal

pub returns : goal.returns
returns c = draws_are_of_node
