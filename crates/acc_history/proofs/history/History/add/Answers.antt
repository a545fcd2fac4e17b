use Rattle.std.proofs.Common.{◌++◌, [], ◌∷◌, ap, ◌∙◌}
use Rattle.acc_message.specs.Growing.{Growing}
use Rattle.acc_message.specs.Shown.{with_sent}
use Rattle.acc_history.proofs.Raised.{begun_more}
use Rattle.acc_history.proofs.Entered.{holds_added}
use Rattle.acc_history.proofs.history.History.add.Goals as goal

pub returns-clause-stands : goal.returns-clause-stands
returns-clause-stands c = λ s h takes.
    let item = c.args.item in
    let entered = with_sent c.of-shown.result c.sent_by-messages.result.now in
    let same = ap (λ out. with_sent c.of-shown.result out) c.sent_by-messages.ensures ∙ c.of-shown.ensures in
    let admitted = c.in_ok-place.ensures in
    let more = ap (λ (l : Growing). l.items) c.push.ensures ∙ ap (λ l. l ++ item ∷ []) admitted.items.0 in record {
      holds = holds_added h.holds item takes c.admit.new.self.waiting c.enter.new.waiting entered _ c.in_ok-place.place admitted.same same admitted.place more c.enter.ensures.sent c.enter.ensures.downs;
      begun = λ txn. begun_more s item entered txn _ _ same (admitted.begun txn) (h.begun txn);
    }
