use Rattle.std.proofs.Common.{◌||◌, ◌∙◌, ap}
use Rattle.acc_heal.specs.Seen.{has_taker}
use Rattle.acc_heal.proofs.SeenFacts.{taker_at, one_key}
use Rattle.acc_heal.proofs.seen.insert_taker.Goals as goal

pub returns : goal.returns
returns c = λ x a.
    let before = has_taker c.args.taken.now.keys x a in
    c.in_ok-insert.ensures.updates.0 (x, a) ∙ one_key _ before ∙ ap (λ o. before || o) (taker_at c.args.id x c.args.actor a)
