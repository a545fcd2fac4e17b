use Rattle.acc_heal_laws.proofs.TwiceAtMost.{recovers_twice_at_most}
use Rattle.acc_heal_laws.proofs.laws.healing_recovers_twice_at_most.Goals as goal

pub returns : goal.returns
returns c = recovers_twice_at_most c.plans_are_valid.ensures
