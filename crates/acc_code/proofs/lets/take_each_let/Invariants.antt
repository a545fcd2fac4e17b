-- What is read so far, and reading on from here, give what reading gives; the different keys so far are counted.
use Rattle.std.proofs.Common.{◌≡◌, ◌≤◌, ◌-◌, [], length}
use Rattle.acc_code.specs.Reading.{each_at}
use Rattle.acc_code.specs.BodyReading.{let_at, let_uses}
use Rattle.acc_code.proofs.lets.take_each_let.Given as goal

abbrev pub invariant-loop : goal.invariant-loop
invariant-loop l = record {
  read : each_at let_at (l.count - l.counter) l.lets l.reader ≡ each_at let_at l.count [] l.fn.reader;
  counted : l.keys ≡ length (let_uses l.lets);
  few : l.keys ≤ 16;
}
