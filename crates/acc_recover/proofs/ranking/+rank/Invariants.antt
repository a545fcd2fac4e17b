use Rattle.std.proofs.Common.{length}
use Rattle.acc_recover.proofs.ranking.+rank.Given as goal

abbrev pub decreases-rank : goal.decreases-rank
decreases-rank l = length l.views.now
