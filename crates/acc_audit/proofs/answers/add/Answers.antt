use Rattle.std.proofs.Common.{◌∙◌}
use Rattle.acc_value.specs.declared.key.Key.{Key}
use Rattle.acc_value.specs.Cells.{cells_of}
use Rattle.acc_audit.proofs.AnswerFacts.{cell_added}
use Rattle.acc_audit.proofs.answers.add.Goals as goal

pub returns : goal.returns
returns c = λ (q : Key).
    cell_added (cells_of c.args.cells.now) c.args.known.now c.set.new.self c.args.key.now c.in_ok-copy.field-0 c.in_ok-copy_of.field-0 c.in_ok-copy.ensures (c.in_ok-copy_of.ensures ∙ c.get.ensures) c.in_ok-set.ensures.ok q
