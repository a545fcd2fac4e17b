-- The length of those so far.
use Rattle.std.proofs.Common.{◌≡◌, ◌≤◌, ◌*◌, length, take}
use Rattle.std.specs.List.{flat_map}
use Rattle.acc_code.specs.Spelling.{cell_bytes}
use Rattle.acc_code.proofs.lengths.each_cell_length.Given as goal

abbrev pub invariant-loop-cell : goal.invariant-loop-cell
invariant-loop-cell l = record {
  exact : l.total ≡ length (flat_map cell_bytes (take l.cell-index l.cells));
  most : l.total ≤ 257 * l.cell-index;
}
