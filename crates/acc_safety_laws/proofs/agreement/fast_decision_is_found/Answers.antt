use Rattle.acc_safety_laws.proofs.FastFound.{fast_is_found}
use Rattle.acc_safety_laws.proofs.agreement.fast_decision_is_found.Goals as goal

pub returns : goal.returns
returns c = fast_is_found
