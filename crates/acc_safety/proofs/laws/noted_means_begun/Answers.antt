use Rattle.acc_safety.proofs.BegunBefore.{begun_before}
use Rattle.acc_safety.proofs.laws.noted_means_begun.Goals as goal

pub returns : goal.returns
returns c = begun_before
