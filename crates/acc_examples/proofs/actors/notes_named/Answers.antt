use Rattle.acc_examples.proofs.Stepped.{notes_named-holds}
use Rattle.acc_examples.proofs.actors.notes_named.Goals as goal

pub returns : goal.returns
returns c = notes_named-holds
