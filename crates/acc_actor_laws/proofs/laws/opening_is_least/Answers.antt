use Rattle.acc_actor_laws.proofs.OpeningFacts.{opened_of-sound, opened_of-complete}
use Rattle.acc_actor_laws.proofs.laws.opening_is_least.Goals as goal

pub returns : goal.returns
returns c = record { sound = opened_of-sound; complete = opened_of-complete }
