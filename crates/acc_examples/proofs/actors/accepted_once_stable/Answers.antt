use Rattle.acc_examples.proofs.Stepped.{accepted_once_stable-holds}
use Rattle.acc_examples.proofs.actors.accepted_once_stable.Goals as goal

pub returns : goal.returns
returns c = accepted_once_stable-holds
