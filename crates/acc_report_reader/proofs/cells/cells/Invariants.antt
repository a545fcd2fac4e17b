-- The values that are left go on from those so far.
use Rattle.std.proofs.Common.{◌≡◌, ◌++◌, length}
use Rattle.std.specs.Prelude.{option_map}
use Rattle.acc_report_reader.specs.Fields.{list_in, cell_in}
use Rattle.acc_report_reader.proofs.cells.cells.Given as goal

abbrev pub invariant-loop-first : goal.invariant-loop-first
invariant-loop-first l = list_in cell_in l.bytes ≡ option_map (λ ys. l.cells ++ ys) (list_in cell_in l.rest)

abbrev pub decreases-loop-first : goal.decreases-loop-first
decreases-loop-first l = length l.rest
