use Rattle.std.proofs.Common.{length, refl, ap, ◌∙◌, arith}
use Rattle.std.proofs.lemmas.Option.{slice_get_read}
use Rattle.acc_message_index.specs.Standing.{Standing}
use Rattle.acc_history.proofs.Lists.{sent_more}
use Rattle.acc_history.proofs.entering.send.Goals as goal

pub loop-index-preserved : goal.loop-index-preserved
loop-index-preserved c =
    let i = c.loop-index.invariant in
    let messages = c.args.messages.now in
    let here = slice_get_read messages (length messages) c.loop-index.index c.index-messages-index.result refl c.loop-index-test.true c.index-messages-index.is in record {
      sent = ap (λ (w : Standing). w.sent) c.add.ensures ∙ sent_more c.args.waiting.now.sent c.loop-index.waiting.sent c.args.place c.args.is_lost messages c.loop-index.index c.index-messages-index.result c.to.result c.to.ensures here i.sent;
      downs = ap (λ (w : Standing). w.downs) c.add.ensures ∙ i.downs;
      room = let room = ap (λ (w : Standing). w.room) c.add.ensures in omega (arith, room, i.room);
    }
