use Rattle.std.proofs.Common.{sym, ap, subst, ◌∙◌}
use Rattle.acc_message_code.specs.Reading.{settled_at}
use Rattle.acc_message_code.specs.SharedParts.{AreSettled}
use Rattle.acc_message_code.proofs.Shared.{settled_is}
use Rattle.acc_message_code.proofs.shared_parts.read_settled.Goals as goal

pub returns : goal.returns
returns c =
    subst (AreSettled c.args.bytes.now c.in_ok-settled.settled) (sym c.left.ensures)
    (settled_is c.args.bytes.now c.take_settled.new.reader c.in_ok-settled.settled c.requires (ap settled_at (sym c.new-reader.ensures) ∙ c.in_ok-settled.ensures))
