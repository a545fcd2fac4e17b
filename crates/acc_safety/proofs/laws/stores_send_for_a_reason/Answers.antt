use Rattle.acc_safety.proofs.StoreSent.{store_sends}
use Rattle.acc_safety.proofs.laws.stores_send_for_a_reason.Goals as goal

pub returns : goal.returns
returns c = store_sends
