use Rattle.acc_free_laws.proofs.Answered.{served_end}
use Rattle.acc_free_laws.proofs.laws.served_at_the_end.Goals as goal

pub returns : goal.returns
returns c = served_end
