use Rattle.std.proofs.Common.{true}
use Rattle.acc_code.proofs.KeyCounts.{update_counted}
use Rattle.acc_code.proofs.updates.take_update.Goals as goal

pub returns-clause-counted : goal.returns-clause-counted
returns-clause-counted c = update_counted c.take_update_with.result _ c.in_ok-key.key _ c.take_update_with.ensures.key (c.in_ok-key.ensures.counted true)
