-- With the writes that are left, the cells come to what all writes make of those before. The cells to be written are those
-- of the writes that are left.
use Rattle.std.proofs.Common.{◌≡◌, length, drop, map}
use Rattle.acc_value.specs.Cells.{applied}
use Rattle.acc_value.specs.Entries.{held}
use Rattle.acc_value.proofs.EntryFacts.{Left}
use Rattle.acc_value.proofs.map.write_cells.Given as goal

abbrev pub invariant-loop-place : goal.invariant-loop-place
invariant-loop-place l =
    Left (applied (held l.fn.entries) l.writes) l.entries (drop l.place l.writes)
    × (length l.cells.items ≡ length l.writes)
    × (drop l.place l.cells.items ≡ map (λ p. p.1) (drop l.place l.writes))
