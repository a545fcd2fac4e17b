use Rattle.acc_examples.proofs.Stepped.{commit_round-holds}
use Rattle.acc_examples.proofs.actors.commit_round.Goals as goal

pub returns : goal.returns
returns c = commit_round-holds
