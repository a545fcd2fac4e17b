use Rattle.std.proofs.Common.{length}
use Rattle.acc_short.proofs.waits.+rise.Given as goal

abbrev pub decreases-rise : goal.decreases-rise
decreases-rise l = length l.ids.now
