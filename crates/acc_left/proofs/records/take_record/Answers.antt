-- A whole record would have been read.
use Rattle.std.proofs.Common.{arith, ◌≡◌, ◌∙◌, ap, ◌∷◌, ◌++◌, length, length-append}
use Rattle.acc_wire.specs.Reading.{Unread}
use Rattle.acc_journal.proofs.Readings.{behind_length, passes_length}
use Rattle.acc_left.proofs.records.take_record.Goals as goal

pub returns-in_default-clause-cut : goal.returns-in_default-clause-cut
returns-in_default-clause-cut c = λ payload gate behind short is.
    let read = c.take_u32.ensures.only (length payload) (behind_length c.new-reader.result payload gate behind) short (passes_length c.args.bytes.now payload gate behind c.new-reader.result c.new-reader.ensures is) in
    c.in_default.not-Ok (length payload) read.0

pub returns-then-rest-count-clause-cut : goal.returns-then-rest-count-clause-cut
returns-then-rest-count-clause-cut c = λ payload gate behind short is.
    let read = c.take_u32.ensures.only (length payload) (behind_length c.new-reader.result payload gate behind) short (passes_length c.args.bytes.now payload gate behind c.new-reader.result c.new-reader.ensures is) in
    let same : c.in-Ok.count ≡ length payload = cc (read.0, c.in-Ok.is) in
    let left : c.left-rest.result.now ≡ payload ++ gate ∷ behind = c.left-rest.ensures ∙ ap (λ (u : Unread). u.bytes) read.1 in
    omega (arith, same, ap length left, length-append payload (gate ∷ behind), c.if-rest-count.true)
