use Rattle.acc_heal_laws.proofs.GoesOn.{healing_goes_on as goes_on}
use Rattle.acc_heal_laws.proofs.StrictGoing.{strict_healings_are_answered, strict_healing_goes_on}
use Rattle.acc_heal_laws.proofs.laws.healing_goes_on.Goals as goal

pub returns-clause-run : goal.returns-clause-run
returns-clause-run c = goes_on c.plans_are_valid.ensures

pub returns-clause-answered : goal.returns-clause-answered
returns-clause-answered c = strict_healings_are_answered

pub returns-clause-strict : goal.returns-clause-strict
returns-clause-strict c = strict_healing_goes_on
