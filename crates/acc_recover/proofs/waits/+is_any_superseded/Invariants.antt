use Rattle.std.proofs.Common.{length}
use Rattle.acc_recover.proofs.waits.+is_any_superseded.Given as goal

abbrev pub decreases-is_any_superseded : goal.decreases-is_any_superseded
decreases-is_any_superseded l = length l.views.now
