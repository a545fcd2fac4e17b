-- One more write makes the front of the text longer.
use Rattle.std.proofs.Common.{arith, rules, length-take, length-drop, ℕ}
use Rattle.acc_ports.proofs.SinkLemmas.{followed_by-more}
use Rattle.acc_ports.proofs.whole.write_all.Goals as goal

pub loop-written-preserved : goal.loop-written-preserved
loop-written-preserved g c = record {
  within = omega (arith, c.in_ok-written.ensures.room, length-take {A = ℕ}, length-drop {A = ℕ});
  so_far = followed_by-more _ _ _ _ _ _ c.loop-written.invariant.so_far c.in_ok-written.ensures.appended;
  counted = omega (arith, c.in_ok-written.ensures.counted);
  still = search rules;
}
