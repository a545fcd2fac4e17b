use Rattle.acc_code.proofs.CellFormats.{cells_field}
use Rattle.acc_code.proofs.Exact.{reads_found, reads_fitting, reads_only}
use Rattle.acc_code.proofs.cells.take_cells.Goals as goal

pub returns-clause-found : goal.returns-clause-found
returns-clause-found c = reads_found cells_field _ _ _ c.take_counted_pairs.ensures.bytes c.take_counted_pairs.ensures.exact

pub returns-clause-fits : goal.returns-clause-fits
returns-clause-fits c = reads_fitting cells_field _ _ _ c.take_counted_pairs.ensures.bytes c.take_counted_pairs.ensures.exact

pub returns-clause-only : goal.returns-clause-only
returns-clause-only c = reads_only cells_field _ _ _ c.take_counted_pairs.ensures.exact
