use Rattle.acc_actor_laws.proofs.OpeningOrder.{opens_in_order}
use Rattle.acc_actor_laws.proofs.laws.changes_are_in_order.Goals as goal

pub returns : goal.returns
returns c = opens_in_order
