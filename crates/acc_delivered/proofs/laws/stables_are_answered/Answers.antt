use Rattle.acc_delivered.proofs.AnsweredReads.{stables_are_answered}
use Rattle.acc_delivered.proofs.laws.stables_are_answered.Goals as goal

pub returns : goal.returns
returns c = stables_are_answered
