use Rattle.std.proofs.Common.{◌||◌, ◌∙◌, ap}
use Rattle.acc_glance.specs.Serial.{has_id}
use Rattle.acc_glance.proofs.SerialFacts.{id_at, one_key}
use Rattle.acc_glance.proofs.serial.insert_id.Goals as goal

pub returns : goal.returns
returns c = λ x.
    let before = has_id c.args.answered.now.keys x in
    c.in_ok-insert.ensures.updates.0 x ∙ one_key _ before ∙ ap (λ o. before || o) (id_at c.args.id x)
