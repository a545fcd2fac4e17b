use Rattle.acc_actor_laws.proofs.QuietFacts.{nothing_changes}
use Rattle.acc_actor_laws.proofs.laws.only_stable_and_apply_open.Goals as goal

pub returns : goal.returns
returns c = nothing_changes
