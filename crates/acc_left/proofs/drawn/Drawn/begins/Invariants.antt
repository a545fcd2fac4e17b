-- What the entries begin that are gone through, and those that are left.
use Rattle.std.proofs.Common.{◌≡◌, ◌++◌}
use Rattle.acc_left.proofs.RollFacts.{begins_of}
use Rattle.acc_left.proofs.drawn.Drawn.begins.Given as goal

abbrev pub invariant-loop-stamp : goal.invariant-loop-stamp
invariant-loop-stamp l = l.begins.items ++ begins_of l.stamp-iterator ≡ begins_of l.self.draws.entries
