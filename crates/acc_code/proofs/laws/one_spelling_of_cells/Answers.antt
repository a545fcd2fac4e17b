use Rattle.acc_wire.proofs.Fields.{field_once}
use Rattle.acc_code.proofs.CellFormats.{cells_field}
use Rattle.acc_code.proofs.laws.one_spelling_of_cells.Goals as goal

pub returns : goal.returns
returns c = λ a b x y fa fb e. field_once cells_field a b x y fa fb e
