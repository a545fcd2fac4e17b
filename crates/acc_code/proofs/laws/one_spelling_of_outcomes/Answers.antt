use Rattle.acc_wire.proofs.Fields.{field_once}
use Rattle.acc_code.proofs.CellFormats.{outcome_field}
use Rattle.acc_code.proofs.laws.one_spelling_of_outcomes.Goals as goal

pub returns : goal.returns
returns c = λ a b x y fa fb e. field_once outcome_field a b x y fa fb e
