use Rattle.acc_message_code.proofs.MessageFormat.{message_trails}
use Rattle.acc_message_code.proofs.laws.bytes_behind_a_message.Goals as goal

pub returns : goal.returns
returns c = λ m x xs fits. message_trails m x xs fits
