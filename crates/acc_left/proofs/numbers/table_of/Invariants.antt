-- Each entry so far is a transaction that the draws begin.
use Rattle.acc_left.specs.Told.{AreBegins}
use Rattle.acc_left.proofs.numbers.table_of.Given as goal

abbrev pub invariant-loop-begin : goal.invariant-loop-begin
invariant-loop-begin l = AreBegins l.drawn.draws l.entries.items
