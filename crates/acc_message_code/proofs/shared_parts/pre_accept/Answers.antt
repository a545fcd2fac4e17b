-- The body is all that is after the head.
use Rattle.std.proofs.Common.{◌≡◌, [], sym, ap, subst, ◌∙◌}
use Rattle.acc_wire.specs.Reading.{Unread}
use Rattle.acc_txn.specs.declared.parts.BodyParts.{BodyParts}
use Rattle.acc_message.specs.declared.message.Message.TheVariants.{PreAccept}
use Rattle.acc_message_code.specs.SharedParts.{IsBehind}
use Rattle.acc_message_code.proofs.Shared.{nothing_left, pre_accept_is}
use Rattle.acc_message_code.proofs.shared_parts.pre_accept.Goals as goal

pub returns : goal.returns
returns c =
    let e = c.args.envelope in
    let none : c.args.bytes.now ≡ [] = sym (ap (λ (u : Unread). u.bytes) c.new.ensures) ∙ nothing_left c.new.result (sym c.in_ok-finish.ensures) in
    subst (IsBehind (record { number = 1; envelope = e }) c.args.body.now c.args.bytes.now)
    (sym (c.pre_accept.ensures ∙ ap (λ (b : BodyParts). PreAccept e.from e.to e.id e.ballot b) c.in_ok-copy.ensures))
    (pre_accept_is e c.args.body.now c.args.bytes.now c.requires none)
