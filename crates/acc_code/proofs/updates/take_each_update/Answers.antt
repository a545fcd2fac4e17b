use Rattle.std.proofs.Common.{length, true, sym, ap, ◌∙◌}
use Rattle.acc_txn.specs.Uses.{updated_key}
use Rattle.acc_code.specs.BodyReading.{next_update_at, read_uses}
use Rattle.acc_code.proofs.Loops.{each_goes_on}
use Rattle.acc_code.proofs.Uses.{with_keys-map}
use Rattle.acc_code.proofs.updates.take_each_update.Goals as goal

pub loop-preserved : goal.loop-preserved
loop-preserved c =
    let uses = read_uses c.args.lets.now c.args.select.now in
    rw c.in_ok-push.ensures.ok record {
      read = each_goes_on (next_update_at (length c.args.lets.now) uses) _ _ _ _ _ c.loop.invariant.read _ _ c.loop-test.true (rw c.as_slice.ensures at c.in_ok-update.ensures.read);
      counted = (rw c.as_slice.ensures at c.in_ok-update.ensures.counted) ∙ ap length (sym (with_keys-map updated_key true uses c.loop.updates c.in_ok-update.update));
      few = c.in_ok-update.ensures.few;
    }
