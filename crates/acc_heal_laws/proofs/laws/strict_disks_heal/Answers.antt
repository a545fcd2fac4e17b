use Rattle.acc_heal_laws.proofs.StrictHeals.{strict_disks_heal as disks_heal}
use Rattle.acc_heal_laws.proofs.laws.strict_disks_heal.Goals as goal

pub returns : goal.returns
returns c = disks_heal c.armed_calls_are_counted.ensures.pass c.healing_heals.ensures.healed
