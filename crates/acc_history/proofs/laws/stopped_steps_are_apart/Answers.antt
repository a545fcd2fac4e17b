use Rattle.acc_history.proofs.Stopped.{stands_stopped}
use Rattle.acc_history.proofs.laws.stopped_steps_are_apart.Goals as goal

pub returns : goal.returns
returns c = λ h s stopped f. stands_stopped f stopped
