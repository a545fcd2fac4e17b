use Rattle.acc_quorum.proofs.Together.{greatest-above}
use Rattle.acc_quorum.proofs.laws.greatest_is_above_each.Goals as goal

pub returns : goal.returns
returns c = greatest-above
