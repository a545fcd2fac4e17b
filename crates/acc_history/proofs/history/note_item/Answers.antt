-- One item more.
use Rattle.std.proofs.Common.{ap, ◌∙◌, ◌+◌}
use Rattle.acc_message.specs.Shown.{with_sent}
use Rattle.acc_message_code.specs.Weight.{weight_of_all}
use Rattle.acc_history.proofs.Over.{noted_more}
use Rattle.acc_history.proofs.history.note_item.Goals as goal

pub returns : goal.returns
returns c = λ before item at is sent takes h.
    noted_more before item c.args.waiting.now c.prepare.new.waiting c.enter.new.waiting c.args.begun.now.items c.prepare.new.begun.items c.args.weight c.in_ok-total.total
    (with_sent c.args.shown c.args.messages.now) c.in_ok-place.place is (c.in_ok-place.ensures ∙ at) takes c.in_ok-prepare.ensures.same c.enter.ensures.sent c.enter.ensures.downs c.in_ok-prepare.ensures.begun
    (c.in_ok-total.ensures ∙ ap (λ l. c.args.weight + weight_of_all l) sent) h
