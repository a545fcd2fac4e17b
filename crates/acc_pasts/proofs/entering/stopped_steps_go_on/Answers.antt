use Rattle.acc_pasts.proofs.Sound.{goes_on}
use Rattle.acc_pasts.proofs.entering.stopped_steps_go_on.Goals as goal

pub returns : goal.returns
returns c = goes_on
