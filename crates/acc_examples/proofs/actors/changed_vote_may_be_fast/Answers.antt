use Rattle.acc_examples.proofs.Stepped.{changed_vote_may_be_fast-holds}
use Rattle.acc_examples.proofs.actors.changed_vote_may_be_fast.Goals as goal

pub returns : goal.returns
returns c = changed_vote_may_be_fast-holds
