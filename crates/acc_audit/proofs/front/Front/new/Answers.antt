use Rattle.std.proofs.Common.{List}
use Rattle.acc_txn.specs.declared.parts.BodyParts.{BodyParts}
use Rattle.acc_audit.proofs.StepFacts.{holds_none}
use Rattle.acc_audit.proofs.front.Front.new.Goals as goal

pub returns : goal.returns
returns c = λ (bodies : List BodyParts).
    holds_none c.args.numbers.now bodies c.len-count.result _ c.len-count.ensures c.in_ok-no_marks.ensures c.in_ok-none_begun.ensures c.in_ok-new.ensures.timestamps c.in_ok-new.ensures.owners c.in_ok-new-2.ensures.first c.in_ok-new-2.ensures.cells
