use Rattle.acc_wire.proofs.Fields.{field_once}
use Rattle.acc_code.proofs.PartsFormat.{body_field}
use Rattle.acc_code.proofs.RulesGiven.{rules_given}
use Rattle.acc_code.proofs.laws.one_spelling_of_bodies.Goals as goal

pub returns : goal.returns
returns c = λ a b x y fa fb e. field_once body_field a b x y (rules_given a fa) (rules_given b fb) e
