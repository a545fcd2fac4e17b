use Rattle.acc_examples.proofs.Stepped.{record_adopted-holds}
use Rattle.acc_examples.proofs.actors.record_adopted.Goals as goal

pub returns : goal.returns
returns c = record_adopted-holds
