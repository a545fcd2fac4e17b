-- What was tested so far can be entered.
use Rattle.std.proofs.Common.{take}
use Rattle.std.specs.List.{AllByRecursion}
use Rattle.acc_cluster.specs.Restarting.{CanBeEntered}
use Rattle.acc_cluster.proofs.restarting.check_kept.Given as goal

abbrev pub invariant-loop-unsent : goal.invariant-loop-unsent
invariant-loop-unsent l = AllByRecursion (CanBeEntered l.history) (take l.unsent-index l.unsent-items)
