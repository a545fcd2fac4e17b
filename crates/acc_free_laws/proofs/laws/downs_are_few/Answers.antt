use Rattle.acc_free_laws.proofs.Few.{downs_left}
use Rattle.acc_free_laws.proofs.laws.downs_are_few.Goals as goal

pub returns : goal.returns
returns c = downs_left
