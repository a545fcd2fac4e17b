-- The LETs so far are bound.
use Rattle.std.proofs.Common.{◌≡◌, take}
use Rattle.acc_value.specs.Cells.{cell_of}
use Rattle.acc_txn.specs.Meaning.{bound_cells}
use Rattle.acc_txn.proofs.evaluate.bind.Given as goal

abbrev pub invariant-loop-binding : goal.invariant-loop-binding
invariant-loop-binding l = l.bound.items ≡ bound_cells (take l.binding-index l.lets) (cell_of l.cells)
