use Rattle.acc_stamp.proofs.History.{draws_rise}
use Rattle.acc_stamp.proofs.laws.draws_rise.Goals as goal

pub returns : goal.returns
returns c = draws_rise
