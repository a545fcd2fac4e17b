use Rattle.acc_code.specs.BodyReading.{let_number_at}
use Rattle.acc_code.proofs.Loops.{each_goes_on}
use Rattle.acc_code.proofs.select.take_each_name.Goals as goal

pub loop-preserved : goal.loop-preserved
loop-preserved c =
    rw c.in_ok-push.ensures.ok (each_goes_on (λ _. let_number_at c.args.lets) _ _ _ _ _ c.loop.invariant _ _ c.loop-test.true c.in_ok-name.ensures)
