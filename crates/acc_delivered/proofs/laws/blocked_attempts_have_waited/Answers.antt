use Rattle.acc_delivered.proofs.BlockedWaits.{blocked_have_waited}
use Rattle.acc_delivered.proofs.laws.blocked_attempts_have_waited.Goals as goal

pub returns : goal.returns
returns c = blocked_have_waited
