-- What is read so far, and reading on from here, give what reading gives; as many as the counter tells, and they rise.
use Rattle.std.proofs.Common.{◌≡◌, ◌-◌, [], length}
use Rattle.acc_stamp.specs.Rising.{IsRising}
use Rattle.acc_code.specs.Reading.{each_at}
use Rattle.acc_message_code.specs.Reading.{next_id_at}
use Rattle.acc_message_code.proofs.ids.take_each_id.Given as goal

abbrev pub invariant-loop : goal.invariant-loop
invariant-loop l = record {
  read : each_at next_id_at (l.count - l.counter) l.ids l.reader ≡ each_at next_id_at l.count [] l.fn.reader;
  rises : IsRising l.ids;
  count : length l.ids ≡ l.counter;
}
