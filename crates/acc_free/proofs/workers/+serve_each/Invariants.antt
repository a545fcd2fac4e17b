-- With each call one hand less.
use Rattle.std.proofs.Common.{length}
use Rattle.acc_free.proofs.workers.+serve_each.Given as goal

abbrev pub decreases-serve_each : goal.decreases-serve_each
decreases-serve_each g l = length l.hands.items
