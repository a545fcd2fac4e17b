use Rattle.acc_actor_laws.proofs.StoreFacts.{vote_before_promise}
use Rattle.acc_actor_laws.proofs.laws.votes_come_before_promises.Goals as goal

pub returns : goal.returns
returns c = vote_before_promise
