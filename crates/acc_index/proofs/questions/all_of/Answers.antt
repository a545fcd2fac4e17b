use Rattle.std.proofs.Common.{take, ◌+◌, ◌∙◌}
use Rattle.acc_index.specs.Users.{places_at}
use Rattle.acc_index.specs.Places.{asked}
use Rattle.acc_index.proofs.Steps.{asked_more, ids_uses}
use Rattle.acc_index.proofs.questions.all_of.Goals as goal

pub loop-key-preserved : goal.loop-key-preserved
loop-key-preserved c =
    let uses = c.args.uses.now in
    let at = places_at c.args.users.now in
    let i = c.loop-key.key-index in
    ids_uses c.args.columns.now c.args.id (asked at (take (i + 1) uses)) (asked at (take i uses)) c.users_of.result.0.now c.users_of.result.1.now
    (asked_more at uses i c.loop-key-item.result c.users_of.result.0.now c.users_of.result.1.now c.loop-key-test.true c.loop-key-item.is c.users_of.ensures.writers c.users_of.ensures.readers)
    c.reserve.new.self.items c.collect_others.new.found.items c.collect_others-in-loop-key.new.found.items (c.reserve.ensures.items ∙ c.loop-key.invariant) c.in_ok-collect_others.ensures c.in_ok-collect_others-2.ensures
