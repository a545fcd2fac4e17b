use Rattle.acc_delivered.proofs.BlockedWaits.{blocked_have_waited}
use Rattle.acc_heal_laws.proofs.StableApplied.{stable_is_applied}
use Rattle.acc_heal_laws.proofs.NoWaits.{rounds_are_not_blocked}
use Rattle.acc_heal_laws.proofs.Healed.{each_turned_is_healed}
use Rattle.acc_heal_laws.proofs.laws.turns_heal.Goals as goal

pub returns-clause-unblocked : goal.returns-clause-unblocked
returns-clause-unblocked c cluster = rounds_are_not_blocked cluster (blocked_have_waited cluster)

pub returns-clause-applied : goal.returns-clause-applied
returns-clause-applied c = stable_is_applied

pub returns-clause-healed : goal.returns-clause-healed
returns-clause-healed c = each_turned_is_healed
