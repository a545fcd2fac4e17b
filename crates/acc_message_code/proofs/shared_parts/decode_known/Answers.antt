-- What was shared is the whole message, so that reading the bytes gives it.
use Rattle.std.proofs.Common.{Ok}
use Rattle.acc_message_code.proofs.MessageFormat.{gives_only}
use Rattle.acc_message_code.proofs.Shared.{whole_is_read}
use Rattle.acc_message_code.proofs.shared_parts.decode_known.Goals as goal

pub returns-in-Ok-clause-only : goal.returns-in-Ok-clause-only
returns-in-Ok-clause-only g c = gives_only c.args.bytes.now (Ok c.in-Ok.m) (whole_is_read c.args.bytes.now c.in-Ok.m c.in-Ok.ensures)

pub returns-in-Ok-clause-exact : goal.returns-in-Ok-clause-exact
returns-in-Ok-clause-exact g c = whole_is_read c.args.bytes.now c.in-Ok.m c.in-Ok.ensures
