use Rattle.acc_actor_laws.proofs.AppliedFacts.{applied_is}
use Rattle.acc_actor_laws.proofs.laws.applied_is_opened_with_an_outcome.Goals as goal

pub returns : goal.returns
returns c = applied_is
