-- What is read so far, and reading on from here, give what reading gives.
use Rattle.std.proofs.Common.{◌≡◌, ◌-◌, []}
use Rattle.acc_code.specs.Reading.{each_at}
use Rattle.acc_code.specs.BodyReading.{part_at}
use Rattle.acc_code.proofs.sums.take_parts.Given as goal

abbrev pub invariant-loop : goal.invariant-loop
invariant-loop l = each_at (part_at l.lets) (l.count - l.counter) l.parts l.reader ≡ each_at (part_at l.lets) l.count [] l.fn.reader
