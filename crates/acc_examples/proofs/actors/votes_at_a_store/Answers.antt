use Rattle.acc_examples.proofs.Stepped.{votes_at_a_store-holds}
use Rattle.acc_examples.proofs.actors.votes_at_a_store.Goals as goal

pub returns : goal.returns
returns c = votes_at_a_store-holds
