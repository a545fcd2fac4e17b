use Rattle.acc_examples.proofs.Stepped.{strangers_ignored-holds}
use Rattle.acc_examples.proofs.actors.strangers_ignored.Goals as goal

pub returns : goal.returns
returns c = strangers_ignored-holds
