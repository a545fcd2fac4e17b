use Rattle.std.proofs.Common.{◌||◌, ◌∙◌, ap}
use Rattle.acc_heal.specs.Seen.{has_attempt}
use Rattle.acc_heal.proofs.SeenFacts.{attempt_at, one_key}
use Rattle.acc_heal.proofs.seen.insert_attempt.Goals as goal

pub returns : goal.returns
returns c = λ x b.
    let before = has_attempt c.args.ended.now.keys x b in
    c.in_ok-insert.ensures.updates.0 (x, b) ∙ one_key _ before ∙ ap (λ o. before || o) (attempt_at c.args.id x c.args.ballot b)
