use Rattle.std.proofs.Common.{Bool, sym, ap, ◌∙◌}
use Rattle.acc_value.specs.declared.key.Key.{Key}
use Rattle.acc_value.specs.Cells.{cells_of}
use Rattle.acc_glance.proofs.AnswerFacts.{cell_more}
use Rattle.acc_glance.proofs.answers.cells_at.Goals as goal

pub loop-key-preserved : goal.loop-key-preserved
loop-key-preserved c =
    let item = c.loop-key-item.result in
    cell_more c.args.uses.now c.loop-key.key-index item (cells_of c.args.cells.now) c.loop-key.used c.set.new.self c.in_ok-copy.field-0 c.in_ok-copy_of.field-0 c.loop-key-test.true
    (c.in_ok-copy.ensures ∙ ap (λ (other : Key × Bool). other.0) c.loop-key-item.is) c.in_ok-set.ensures.ok
    (c.in_ok-copy_of.ensures ∙ c.get.ensures ∙ ap (cells_of c.args.cells.now) (sym c.in_ok-copy.ensures)) c.loop-key.invariant
