-- One record more stands in the buffer.
use Rattle.std.proofs.Common.{arith, ◌∙◌, ap, sym, List, ℕ, ◌∷◌, ◌++◌, length}
use Rattle.acc_journal.specs.Layout.{sized}
use Rattle.acc_journal.proofs.Groups.{records_more, lengths_left}
use Rattle.acc_journal.proofs.group.fill.Goals as goal

pub loop-payload-preserved : goal.loop-payload-preserved
loop-payload-preserved c =
    let i = c.loop-payload.payload-index in
    let payload = c.payload-item.result in
    let inside = c.loop-payload-test.true in
    record {
      filled = c.push_record.ensures.items ∙ ap (λ (l : List ℕ). c.loop-payload.buffer.items ++ 1 ∷ sized l) c.as_slice.ensures ∙ ap (λ (l : List ℕ). l ++ 1 ∷ sized payload) c.loop-payload.invariant.filled ∙ sym (records_more i c.args.payloads.now payload inside c.payload-item.is);
      room = omega (arith, c.push_record.ensures.len, ap length c.as_slice.ensures, lengths_left i c.args.payloads.now payload inside c.payload-item.is, c.loop-payload.invariant.room);
      kept = omega arith;
    }
