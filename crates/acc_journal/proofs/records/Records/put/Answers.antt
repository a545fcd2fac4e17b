-- One payload more waits.
use Rattle.std.proofs.Common.{◌∙◌, ap, arith, List, ℕ, [], ◌∷◌, ◌++◌, length, length-append}
use Rattle.acc_journal.specs.Records.{payloads_in}
use Rattle.acc_journal.proofs.Waiting.{own_records, one_more, one_waits, as_many}
use Rattle.acc_journal.proofs.records.Records.put.Goals as goal

pub overflow_add-self : goal.overflow_add-self
overflow_add-self g c =
    let buffer = c.put_record.new.buffer in
    omega (arith, c.self.invariant.count, as_many _ _ _ c.self.invariant.records c.in_ok-put_record.ensures.short c.in_ok-put_record.ensures.spelled, buffer.ok.0, buffer.ok.1, buffer.small)

pub invariant_of-self-2 : goal.invariant_of-self-2
invariant_of-self-2 g c =
    let before = payloads_in c.self.inside.bytes.items in
    let payload = g.P.Payload.bytes c.args.payload.now in
    record {
      records = own_records _ _ (one_more _ _ _ c.self.invariant.records c.in_ok-put_record.ensures.short c.in_ok-put_record.ensures.spelled);
      count = omega (arith, c.self.invariant.count, ap length (one_waits _ _ _ c.self.invariant.records c.in_ok-put_record.ensures.short c.in_ok-put_record.ensures.spelled), length-append before (payload ∷ []));
      room = λ _. c.in_ok-put_record.ensures.room;
    }

pub returns-clause-ok : goal.returns-clause-ok
returns-clause-ok g c =
    let payload = g.P.Payload.bytes c.args.payload.now in
    one_waits _ _ _ c.self.invariant.records c.in_ok-put_record.ensures.short c.in_ok-put_record.ensures.spelled ∙ ap (λ (ps : List (List ℕ)). ps ++ payload ∷ []) c.self.view_is
