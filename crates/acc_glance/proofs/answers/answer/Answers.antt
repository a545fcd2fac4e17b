use Rattle.std.proofs.Common.{◌≡◌, IfOk, Bool, List, ap, subst, ◌∙◌}
use Rattle.std.specs.List.{list_any}
use Rattle.acc_value.specs.declared.key.Key.{Key}
use Rattle.acc_value.specs.Key.{key_eq}
use Rattle.acc_value.specs.Cells.{cell_of, cells_of}
use Rattle.acc_txn.specs.declared.outcome.Outcome.{Outcome}
use Rattle.acc_txn.specs.Uses.{is_read, is_updated}
use Rattle.acc_txn.proofs.Agree.{outcome_of-agree}
use Rattle.acc_glance.proofs.AnswerFacts.{read_used}
use Rattle.acc_glance.proofs.answers.answer.Goals as goal

pub returns : goal.returns
returns c =
    let body = c.args.body.now in
    let uses : List (Key × Bool) = c.in_ok-uses.uses in
    let agree = outcome_of-agree (cell_of c.in_ok-used.used) (cells_of c.args.cells.now) body
    (λ key read. c.in_ok-used.ensures key (ap (list_any (λ (other : Key × Bool). key_eq key other.0)) c.pairs.ensures.pairs ∙ read_used uses key (is_updated body key) (is_read body key) (c.in_ok-uses.ensures.keys key) read)) in
    subst (λ (x : Outcome). IfOk c.evaluate.result (λ outcome. outcome ≡ x)) agree c.evaluate.ensures
