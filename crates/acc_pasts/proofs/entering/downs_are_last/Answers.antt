use Rattle.acc_pasts.proofs.Downs.{ends_is_down}
use Rattle.acc_pasts.proofs.entering.downs_are_last.Goals as goal

pub returns : goal.returns
returns c = ends_is_down
