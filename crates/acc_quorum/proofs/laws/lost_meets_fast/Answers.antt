use Rattle.acc_quorum.proofs.Counted.{lost_and_fast, impossible_and_fast}
use Rattle.acc_quorum.proofs.laws.lost_meets_fast.Goals as goal

pub returns-clause-lost : goal.returns-clause-lost
returns-clause-lost c = lost_and_fast

pub returns-clause-impossible : goal.returns-clause-impossible
returns-clause-impossible c = impossible_and_fast
