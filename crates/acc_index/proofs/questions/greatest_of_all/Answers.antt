use Rattle.std.proofs.Common.{take, ◌+◌}
use Rattle.acc_index.specs.Users.{places_at}
use Rattle.acc_index.specs.Places.{asked}
use Rattle.acc_index.proofs.Steps.{asked_more, greatest_uses}
use Rattle.acc_index.proofs.questions.greatest_of_all.Goals as goal

pub loop-key-preserved : goal.loop-key-preserved
loop-key-preserved c =
    let uses = c.args.uses.now in
    let at = places_at c.args.users.now in
    let i = c.loop-key.key-index in
    greatest_uses c.args.columns.now c.args.id (asked at (take (i + 1) uses)) (asked at (take i uses)) c.users_of.result.0.now c.users_of.result.1.now
    (asked_more at uses i c.loop-key-item.result c.users_of.result.0.now c.users_of.result.1.now c.loop-key-test.true c.loop-key-item.is c.users_of.ensures.writers c.users_of.ensures.readers) _
    (c.greatest_of-greatest-in-loop-key.ensures _ (c.greatest_of-greatest.ensures _ c.loop-key.invariant))
