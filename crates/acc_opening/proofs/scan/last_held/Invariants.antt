-- The dependencies that are no longer left are past.
use Rattle.std.proofs.Common.{length, ◌+◌, ◌≤◌}
use Rattle.acc_opening.specs.Lookup.{lookup}
use Rattle.acc_opening.specs.Turns.{changes_in}
use Rattle.acc_opening.specs.Scan.{ArePast}
use Rattle.acc_opening.proofs.scan.last_held.Given as goal

abbrev pub invariant-loop-left : goal.invariant-loop-left
invariant-loop-left l = (l.left ≤ l.last + 1) × (l.left ≤ length l.ids) × ArePast (lookup l.records l.own) (changes_in l.turns) l.t l.ids l.left (l.last + 1)

abbrev pub decreases-loop-left : goal.decreases-loop-left
decreases-loop-left l = l.left
