-- What is read so far, and reading on from here, give what reading gives.
use Rattle.std.proofs.Common.{◌≡◌, ◌-◌, []}
use Rattle.acc_code.specs.Reading.{each_at}
use Rattle.acc_code.specs.BodyReading.{let_number_at}
use Rattle.acc_code.proofs.select.take_each_name.Given as goal

abbrev pub invariant-loop : goal.invariant-loop
invariant-loop l = each_at (λ _. let_number_at l.lets) (l.count - l.counter) l.names l.reader ≡ each_at (λ _. let_number_at l.lets) l.count [] l.fn.reader
