use Rattle.acc_store.proofs.Heights.{all_low}
use Rattle.acc_store.proofs.laws.heights_stay_low.Goals as goal

pub returns : goal.returns
returns c layout own most messages each = all_low layout own most messages each
