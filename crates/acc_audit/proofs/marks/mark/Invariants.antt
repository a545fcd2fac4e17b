-- The names so far are known, and marked, and the others are left.
use Rattle.std.proofs.Common.{◌≡◌, ℕ, List, true, take, drop, length, map, cond}
use Rattle.std.specs.List.{list_all, list_any}
use Rattle.std.specs.Str.{bytes_eq}
use Rattle.acc_audit.specs.Fronts.{is_known}
use Rattle.acc_audit.proofs.marks.mark.Given as goal

abbrev pub invariant-loop-name : goal.invariant-loop-name
invariant-loop-name l =
    (i : ℕ) × (l.rest ≡ drop i l.names) × (list_all (is_known l.numbers) (take i l.names) ≡ true)
    × ((was : List ℕ → ℕ) → l.initial.marks.items ≡ map was l.numbers → l.marks.items ≡ map (λ name. cond (list_any (bytes_eq name) (take i l.names)) l.mark (was name)) l.numbers)
    × (length l.marks.items ≡ length l.numbers)

abbrev pub decreases-loop-name : goal.decreases-loop-name
decreases-loop-name l = length l.rest
