use Rattle.acc_actor_laws.proofs.WaiterFacts.{waiters_answered}
use Rattle.acc_actor_laws.proofs.laws.waiters_are_answered.Goals as goal

pub returns : goal.returns
returns c = waiters_answered
