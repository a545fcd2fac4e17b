use Rattle.std.proofs.Common.{◌≡◌, ◌++◌, [], ◌∷◌, ap, ◌∙◌}
use Rattle.acc_message.specs.declared.item.Item.{Item}
use Rattle.acc_message.specs.declared.item.Item.TheVariants.{Step}
use Rattle.acc_message.specs.Growing.{Growing}
use Rattle.acc_history.proofs.Raised.{begun_more}
use Rattle.acc_history.proofs.Entered.{holds_added}
use Rattle.acc_history.proofs.history.History.add_entry.Goals as goal

pub returns-clause-stands : goal.returns-clause-stands
returns-clause-stands c = λ s h takes.
    let e = c.args.entry in
    let item = Step e in
    let entered : Item = Step (record { actor = e.actor; lost = e.lost; event = e.event; emitted = record { notes = c.as_slice.result.now; out = c.as_slice-messages.result.now } }) in
    let same : entered ≡ item = λ i. Step (record { actor = e.actor; lost = e.lost; event = e.event; emitted = record { notes = c.as_slice.ensures i; out = c.as_slice-messages.ensures i } }) in
    let admitted = c.in_ok-place.ensures in
    let more = ap (λ (l : Growing). l.items) c.push.ensures ∙ ap (λ l. l ++ item ∷ []) admitted.items.0 in record {
      holds = holds_added h.holds item takes c.admit.new.self.waiting c.enter.new.waiting entered _ c.in_ok-place.place admitted.same same admitted.place more c.enter.ensures.sent c.enter.ensures.downs;
      begun = λ txn. begun_more s item entered txn _ _ same (admitted.begun txn) (h.begun txn);
    }
