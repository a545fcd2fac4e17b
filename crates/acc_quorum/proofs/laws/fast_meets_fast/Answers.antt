use Rattle.acc_quorum.proofs.Counted.{fast_and_fast}
use Rattle.acc_quorum.proofs.laws.fast_meets_fast.Goals as goal

pub returns : goal.returns
returns c = fast_and_fast
