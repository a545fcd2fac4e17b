use Rattle.acc_heal.proofs.HealedRuns.{nobody_down_healed, strictly_healed}
use Rattle.acc_heal.proofs.laws.healings_heal.Goals as goal

pub returns-clause-healed : goal.returns-clause-healed
returns-clause-healed c = nobody_down_healed c.healing_heals.ensures.healed

pub returns-clause-strictly : goal.returns-clause-strictly
returns-clause-strictly c = strictly_healed c.strict_disks_heal.ensures
