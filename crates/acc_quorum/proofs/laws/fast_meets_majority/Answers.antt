use Rattle.acc_quorum.proofs.Counted.{fast_and_majority}
use Rattle.acc_quorum.proofs.laws.fast_meets_majority.Goals as goal

pub returns : goal.returns
returns c = fast_and_majority
