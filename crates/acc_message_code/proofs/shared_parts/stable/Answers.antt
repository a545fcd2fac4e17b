-- After the body are the timestamp and the dependencies, and nothing else.
use Rattle.std.proofs.Common.{◌≡◌, [], sym, ap, subst, ◌∙◌}
use Rattle.acc_wire.specs.Reading.{Unread}
use Rattle.acc_message.specs.declared.message.Message.{Message}
use Rattle.acc_message.specs.declared.message.Message.TheVariants.{Stable}
use Rattle.acc_message_code.specs.SharedParts.{IsBehind}
use Rattle.acc_message_code.proofs.Shared.{nothing_left, stable_is}
use Rattle.acc_message_code.proofs.shared_parts.stable.Goals as goal

pub returns : goal.returns
returns c =
    let e = c.args.envelope in
    let s = c.in_ok-t.field-0-0 in
    let none : c.in_ok-t.rest.now ≡ [] = sym (ap (λ (u : Unread). u.bytes) c.new.ensures) ∙ nothing_left c.new.result (sym c.in_ok-finish.ensures) in
    let is : c.stable.result ≡ Stable e.from e.to e.id e.ballot c.args.body.now s.t s.deps = cc (c.stable.ensures, c.in_ok-copy.ensures) in
    subst (IsBehind (record { number = 7; envelope = e }) c.args.body.now c.args.bytes.now) (sym is)
    (stable_is e c.args.body.now c.args.bytes.now c.in_ok-t.rest.now s c.requires.body c.in_ok-t.ensures none)
