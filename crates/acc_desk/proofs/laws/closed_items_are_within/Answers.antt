use Rattle.acc_desk.proofs.Closed.{within}
use Rattle.acc_desk.proofs.laws.closed_items_are_within.Goals as goal

pub returns : goal.returns
returns c = λ tape made seats items few light seated begins owned. within tape items made seats light seated begins owned
