use Rattle.acc_code.specs.BodyReading.{condition_at}
use Rattle.acc_code.proofs.Loops.{each_goes_on}
use Rattle.acc_code.proofs.conditions.take_each_condition.Goals as goal

pub loop-preserved : goal.loop-preserved
loop-preserved c =
    rw c.in_ok-push.ensures.ok (each_goes_on (λ _. condition_at c.args.lets) _ _ _ _ _ c.loop.invariant _ _ c.loop-test.true c.in_ok-guard.ensures)
