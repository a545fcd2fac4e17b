use Rattle.acc_examples.proofs.Stepped.{closed_clients-holds}
use Rattle.acc_examples.proofs.actors.closed_clients.Goals as goal

pub returns : goal.returns
returns c = closed_clients-holds
