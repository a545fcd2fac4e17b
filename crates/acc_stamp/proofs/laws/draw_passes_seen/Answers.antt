use Rattle.acc_stamp.proofs.History.{draw_passes_seen}
use Rattle.acc_stamp.proofs.laws.draw_passes_seen.Goals as goal

pub returns : goal.returns
returns c = draw_passes_seen
