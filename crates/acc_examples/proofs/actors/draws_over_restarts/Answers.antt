use Rattle.acc_examples.proofs.Stepped.{draws_over_restarts-holds}
use Rattle.acc_examples.proofs.actors.draws_over_restarts.Goals as goal

pub returns : goal.returns
returns c = draws_over_restarts-holds
