-- The values so far are printed, each after a comma.
use Rattle.std.proofs.Common.{◌≡◌, ◌++◌, take}
use Rattle.std.specs.Prelude.{codes}
use Rattle.std.specs.List.{flat_map}
use Rattle.acc_report_line.specs.Texts.{cell_text}
use Rattle.acc_report.proofs.parts.push_more_cells.Given as goal

abbrev pub invariant-loop-cell : goal.invariant-loop-cell
invariant-loop-cell l = l.text.items ≡ l.initial.text.items ++ flat_map (λ cell. codes "," ++ cell_text cell) (take l.cell-index l.cells)
