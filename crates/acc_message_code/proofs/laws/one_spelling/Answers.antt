use Rattle.acc_wire.proofs.Fields.{field_once}
use Rattle.acc_message_code.proofs.MessageFormat.{message_field}
use Rattle.acc_message_code.proofs.laws.one_spelling.Goals as goal

pub returns : goal.returns
returns c = λ a b x y fa fb e. field_once message_field a b x y fa fb e
