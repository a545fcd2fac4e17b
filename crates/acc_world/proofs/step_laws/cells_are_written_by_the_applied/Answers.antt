use Rattle.acc_world.proofs.Cells.{cell_written, cell_stays}
use Rattle.acc_world.proofs.step_laws.cells_are_written_by_the_applied.Goals as goal

pub returns : goal.returns
returns c = record { written = cell_written; stays = cell_stays }
