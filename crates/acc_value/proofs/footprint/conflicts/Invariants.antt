-- What is left of the two clashes exactly where the two do, and rises.
use Rattle.std.proofs.Common.{◌≡◌, ◌+◌, length}
use Rattle.acc_value.specs.Pairs.{IsRising}
use Rattle.acc_value.specs.Footprint.{clashes}
use Rattle.acc_value.proofs.footprint.conflicts.Given as goal

abbrev pub invariant-loop-x : goal.invariant-loop-x
invariant-loop-x l = IsRising l.left × IsRising l.right × (clashes l.left l.right ≡ clashes l.a l.b)

abbrev pub decreases-loop-x : goal.decreases-loop-x
decreases-loop-x l = length l.left + length l.right
