-- The names so far are known, and the others are left.
use Rattle.std.proofs.Common.{◌≡◌, ℕ, true, take, drop, length}
use Rattle.std.specs.List.{list_all}
use Rattle.acc_audit.specs.Fronts.{is_known}
use Rattle.acc_audit.proofs.numbers.has_each.Given as goal

abbrev pub invariant-loop-name : goal.invariant-loop-name
invariant-loop-name l = (i : ℕ) × (l.rest ≡ drop i l.names) × (list_all (is_known l.numbers) (take i l.names) ≡ true)

abbrev pub decreases-loop-name : goal.decreases-loop-name
decreases-loop-name l = length l.rest
