use Rattle.std.proofs.Common.{◌≡◌, true, IfOk, subst}
use Rattle.acc_value.specs.declared.key.Key.{Key}
use Rattle.acc_value.specs.Cells.{cell_of, cells_of}
use Rattle.acc_txn.specs.declared.outcome.Outcome.{Outcome}
use Rattle.acc_txn.specs.declared.parts.BodyParts.{BodyParts}
use Rattle.acc_txn.specs.Uses.{is_read}
use Rattle.acc_txn.proofs.Agree.{outcome_of-agree}
use Rattle.acc_audit.proofs.answers.answer.Goals as goal

pub returns : goal.returns
returns c =
    let alike = subst (λ (parts : BodyParts). (q : Key) → is_read parts q ≡ true → cell_of c.in_ok-known.known q ≡ cells_of c.args.cells.now q) c.parts.ensures.parts c.in_ok-known.ensures in
    let agree = outcome_of-agree (cell_of c.in_ok-known.known) (cells_of c.args.cells.now) c.args.body.now alike in
    subst (λ (x : Outcome). IfOk c.evaluate.result (λ outcome. outcome ≡ x)) agree c.evaluate.ensures
