-- What is read so far, and reading on from here, give what reading gives.
use Rattle.std.proofs.Common.{◌≡◌, ◌-◌, []}
use Rattle.acc_code.specs.Reading.{each_at}
use Rattle.acc_code.specs.CellReading.{pair_at}
use Rattle.acc_code.proofs.cells.take_pairs.Given as goal

abbrev pub invariant-loop : goal.invariant-loop
invariant-loop l = each_at pair_at (l.count - l.counter) l.pairs l.reader ≡ each_at pair_at l.count [] l.fn.reader
