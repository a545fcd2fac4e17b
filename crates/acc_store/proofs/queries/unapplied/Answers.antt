use Rattle.std.proofs.Common.{[], ap, ◌∙◌}
use Rattle.std.proofs.lemmas.Result.{IfOk-weaker}
use Rattle.acc_stamp.specs.Rising.{id_among}
use Rattle.acc_stamp.proofs.Order.{id_order}
use Rattle.acc_stamp.proofs.Rising.{is_among-union}
use Rattle.acc_store.proofs.queries.unapplied.Goals as goal

pub returns-clause-ids : goal.returns-clause-ids
returns-clause-ids c =
    IfOk-weaker c.rising.result _ _
    (λ ids is y. ap (id_among y) is ∙ is_among-union id_order y [] c.in_ok-found.found.items ∙ c.in_ok-found.ensures y)
    c.rising.ensures.ids
