use Rattle.acc_examples.proofs.Stepped.{awaited_while_committed-holds}
use Rattle.acc_examples.proofs.actors.awaited_while_committed.Goals as goal

pub returns : goal.returns
returns c = awaited_while_committed-holds
