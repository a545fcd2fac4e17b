use Rattle.acc_examples.proofs.Stepped.{promises_held-holds}
use Rattle.acc_examples.proofs.actors.promises_held.Goals as goal

pub returns : goal.returns
returns c = promises_held-holds
