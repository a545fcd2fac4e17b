-- One more transaction is found applied in each turn.
use Rattle.std.proofs.Common.{◌-◌, length}
use Rattle.acc_glance.proofs.stores.read.Given as goal

abbrev pub decreases-loop-id : goal.decreases-loop-id
decreases-loop-id l = length l.ids - l.place
