use Rattle.acc_stamp.proofs.Order.{stamp_order, id_order, ballot_order}
use Rattle.acc_stamp.proofs.laws.orders_are_total.Goals as goal

pub returns : goal.returns
returns c = record { stamps = stamp_order; ids = id_order; ballots = ballot_order }
