-- Each entry so far is a number of the map.
use Rattle.acc_report.specs.Known.{AreKnown}
use Rattle.acc_report.proofs.numbers.entries.Given as goal

abbrev pub invariant-loop-id : goal.invariant-loop-id
invariant-loop-id l = AreKnown l.known.entries l.entries.items
