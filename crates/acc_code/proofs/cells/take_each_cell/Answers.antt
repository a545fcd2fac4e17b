use Rattle.acc_code.specs.CellReading.{cell_at}
use Rattle.acc_code.proofs.Loops.{each_goes_on}
use Rattle.acc_code.proofs.cells.take_each_cell.Goals as goal

pub loop-preserved : goal.loop-preserved
loop-preserved c =
    rw c.in_ok-push.ensures.ok (each_goes_on (λ _. cell_at) _ _ _ _ _ c.loop.invariant _ _ c.loop-test.true c.in_ok-cell.ensures)
