-- What is read so far, and reading on from here, give what reading gives; the different keys so far are counted.
use Rattle.std.proofs.Common.{◌≡◌, ◌≤◌, ◌-◌, [], length}
use Rattle.acc_code.specs.Reading.{each_at}
use Rattle.acc_code.specs.BodyReading.{next_update_at, read_uses, uses_so_far}
use Rattle.acc_code.proofs.updates.take_each_update.Given as goal

abbrev pub invariant-loop : goal.invariant-loop
invariant-loop l = record {
  read : each_at (next_update_at (length l.lets) (read_uses l.lets l.select)) (l.count - l.counter) l.updates l.reader ≡ each_at (next_update_at (length l.lets) (read_uses l.lets l.select)) l.count [] l.fn.reader;
  counted : l.keys ≡ length (uses_so_far l.lets l.select l.updates);
  few : l.keys ≤ 16;
}
