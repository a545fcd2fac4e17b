-- Those so far are spelled, and fit.
use Rattle.std.proofs.Common.{◌≡◌, ◌++◌, take}
use Rattle.std.specs.List.{flat_map, AllByRecursion}
use Rattle.acc_code.specs.Spelling.{cell_bytes}
use Rattle.acc_code.specs.Short.{IsCell}
use Rattle.acc_code.proofs.cells.put_each_cell.Given as goal

abbrev pub invariant-loop-cell : goal.invariant-loop-cell
invariant-loop-cell l = record {
  spelled : l.out ≡ l.fn.out ++ flat_map cell_bytes (take l.cell-index l.cells);
  fits : AllByRecursion IsCell (take l.cell-index l.cells);
}
