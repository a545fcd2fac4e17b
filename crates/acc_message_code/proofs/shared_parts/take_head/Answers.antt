use Rattle.acc_message_code.proofs.Shared.{head_is}
use Rattle.acc_message_code.proofs.shared_parts.take_head.Goals as goal

pub returns : goal.returns
returns c = head_is c.args.reader.now _ _ c.in_ok-number.number c.in_ok-envelope.envelope c.in_ok-number.ensures.bytes c.in_ok-number.ensures.exact c.in_ok-envelope.ensures
