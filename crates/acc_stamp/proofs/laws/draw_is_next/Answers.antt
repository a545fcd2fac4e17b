use Rattle.acc_stamp.proofs.History.{draw_is_next}
use Rattle.acc_stamp.proofs.laws.draw_is_next.Goals as goal

pub returns : goal.returns
returns c = draw_is_next
