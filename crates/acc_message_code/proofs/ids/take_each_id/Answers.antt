use Rattle.std.proofs.Common.{arith, length-append, [], ◌∷◌}
use Rattle.acc_code.proofs.Loops.{each_goes_on}
use Rattle.acc_message_code.specs.Reading.{next_id_at}
use Rattle.acc_message_code.proofs.ids.take_each_id.Goals as goal

pub loop-preserved : goal.loop-preserved
loop-preserved c =
    rw c.in_ok-push.ensures.ok record {
      read = each_goes_on next_id_at _ _ _ _ _ c.loop.invariant.read _ _ c.loop-test.true (rw c.as_slice.ensures at c.in_ok-id.ensures.read);
      rises = rw c.as_slice.ensures at c.in_ok-id.ensures.rises;
      count = omega (arith, c.loop.invariant.count, length-append c.loop.ids (c.in_ok-id.id ∷ []));
    }
