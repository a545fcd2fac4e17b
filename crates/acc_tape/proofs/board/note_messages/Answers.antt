use Rattle.std.proofs.Common.{take, ap, ◌∙◌, arith}
use Rattle.std.proofs.lemmas.List.{length-take}
use Rattle.acc_tape.proofs.Mailing.{notes_one, length-messages_from}
use Rattle.acc_tape.proofs.board.note_messages.Goals as goal

pub add-requires : goal.add-requires
add-requires g c =
    let noted = ap (λ m. m.room) c.loop-index.invariant.noted in
    let n = length-messages_from c.args.place 0 c.lost-is_lost.result (take c.loop-index.index (g.E.Posted.sent_to c.args.item.now)) in
    let t = length-take c.loop-index.index (g.E.Posted.sent_to c.args.item.now) in
    omega arith

pub loop-index-preserved : goal.loop-index-preserved
loop-index-preserved g c = record {
  noted = c.add.ensures ∙ notes_one c.args.posts.now c.args.place c.lost-is_lost.result (g.E.Posted.sent_to c.args.item.now) c.loop-index.index c.goes_to.result c.goes_to.ensures c.loop-index.posts c.loop-index.invariant.noted;
  within = omega arith;
}
