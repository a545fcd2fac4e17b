use Rattle.std.proofs.Common.{length, refl}
use Rattle.acc_audit.proofs.LeastFacts.{decided_more, decided_within}
use Rattle.acc_audit.proofs.decisions.decided.Goals as goal

pub loop-number-preserved : goal.loop-number-preserved
loop-number-preserved c = record {
  within = decided_within (length c.args.least.now) c.loop-number.number _ c.loop-number.entries.items c.push.new.entries.items c.loop-number-test.true c.in_ok-push.ensures c.loop-number.invariant.within;
  least = decided_more c.args.least.now c.loop-number.number _ c.loop-number.entries.items c.push.new.entries.items refl c.in_ok-push.ensures c.loop-number.invariant.least;
}
