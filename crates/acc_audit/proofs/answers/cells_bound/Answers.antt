use Rattle.acc_value.specs.Cells.{cells_of}
use Rattle.acc_audit.proofs.AnswerFacts.{let_more}
use Rattle.acc_audit.proofs.answers.cells_bound.Goals as goal

pub loop-one-preserved : goal.loop-one-preserved
loop-one-preserved c =
    let_more c.args.lets.now c.loop-one.one-index c.one-item.result (cells_of c.args.cells.now) c.loop-one.known c.add.new.known c.loop-one-test.true c.one-item.is c.in_ok-add.ensures c.loop-one.invariant
