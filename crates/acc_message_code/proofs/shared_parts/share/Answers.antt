-- The head, the known body, and what is read after it are the whole message.
use Rattle.std.proofs.Common.{sym, subst, ◌∙◌}
use Rattle.acc_wire.specs.Reading.{Unread}
use Rattle.acc_message_code.specs.SharedParts.{IsHead}
use Rattle.acc_message_code.proofs.Shared.{are_bytes_behind, whole_if}
use Rattle.acc_message_code.proofs.shared_parts.share.Goals as goal

pub stable-requires-clause-bytes : goal.stable-requires-clause-bytes
stable-requires-clause-bytes g c =
    are_bytes_behind c.new-reader.result.bytes c.take_head.new.reader.bytes c.code.result.now c.in-Some-strip.rest.now c.in_ok-number.field-0 c.in_ok-number.ensures
    (sym c.left.ensures ∙ c.in-Some-strip.ensures)

pub apply-requires-clause-bytes : goal.apply-requires-clause-bytes
apply-requires-clause-bytes g c =
    are_bytes_behind c.new-reader.result.bytes c.take_head.new.reader.bytes c.code.result.now c.in-Some-strip.rest.now c.in_ok-number.field-0 c.in_ok-number.ensures
    (sym c.left.ensures ∙ c.in-Some-strip.ensures)

pub returns-in-1 : goal.returns-in-1
returns-in-1 g c =
    whole_if c.pre_accept.result c.args.bytes.now c.take_head.new.reader.bytes c.code.result.now c.in-Some-strip.rest.now c.in_ok-number.field-0 (record { number = 1; envelope = c.in_ok-number.field-0.envelope }) c.in-Some.body.now
    (subst (λ (u : Unread). IsHead u.bytes c.take_head.new.reader.bytes c.in_ok-number.field-0) c.new-reader.ensures c.in_ok-number.ensures)
    (λ i. record { number = sym c.in-1.is i; envelope = c.in_ok-number.field-0.envelope })
    c.code.ensures.spelled (sym c.left.ensures ∙ c.in-Some-strip.ensures) c.pre_accept.ensures

pub returns-in-7 : goal.returns-in-7
returns-in-7 g c =
    whole_if c.stable.result c.args.bytes.now c.take_head.new.reader.bytes c.code.result.now c.in-Some-strip.rest.now c.in_ok-number.field-0 (record { number = 7; envelope = c.in_ok-number.field-0.envelope }) c.in-Some.body.now
    (subst (λ (u : Unread). IsHead u.bytes c.take_head.new.reader.bytes c.in_ok-number.field-0) c.new-reader.ensures c.in_ok-number.ensures)
    (λ i. record { number = sym c.in-7.is i; envelope = c.in_ok-number.field-0.envelope })
    c.code.ensures.spelled (sym c.left.ensures ∙ c.in-Some-strip.ensures) c.stable.ensures

pub returns-in-9 : goal.returns-in-9
returns-in-9 g c =
    whole_if c.apply.result c.args.bytes.now c.take_head.new.reader.bytes c.code.result.now c.in-Some-strip.rest.now c.in_ok-number.field-0 (record { number = 9; envelope = c.in_ok-number.field-0.envelope }) c.in-Some.body.now
    (subst (λ (u : Unread). IsHead u.bytes c.take_head.new.reader.bytes c.in_ok-number.field-0) c.new-reader.ensures c.in_ok-number.ensures)
    (λ i. record { number = sym c.in-9.is i; envelope = c.in_ok-number.field-0.envelope })
    c.code.ensures.spelled (sym c.left.ensures ∙ c.in-Some-strip.ensures) c.apply.ensures
