use Rattle.acc_message_code.proofs.MessageStability.{message_cut}
use Rattle.acc_message_code.proofs.laws.cut_messages.Goals as goal

pub returns : goal.returns
returns c = λ m k fits lt. message_cut m k fits lt
