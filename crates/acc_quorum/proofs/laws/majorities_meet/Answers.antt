use Rattle.acc_quorum.proofs.Counted.{majorities}
use Rattle.acc_quorum.proofs.laws.majorities_meet.Goals as goal

pub returns : goal.returns
returns c = majorities
