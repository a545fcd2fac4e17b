-- The cells so far are those of the pairs so far.
use Rattle.std.proofs.Common.{◌≡◌, map, take}
use Rattle.acc_value.proofs.map.cells_in.Given as goal

abbrev pub invariant-loop-cell : goal.invariant-loop-cell
invariant-loop-cell l = l.cells.items ≡ map (λ p. p.1) (take l.cell-index l.pairs)
