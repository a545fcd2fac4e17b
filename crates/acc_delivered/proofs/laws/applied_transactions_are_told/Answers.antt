use Rattle.acc_delivered.proofs.AppliesTold.{applies_are_told}
use Rattle.acc_delivered.proofs.laws.applied_transactions_are_told.Goals as goal

pub returns : goal.returns
returns c = applies_are_told
