-- The terms that are left lead from the sum so far to the whole sum.
use Rattle.std.proofs.Common.{◌≡◌, Ok, drop}
use Rattle.std.specs.List.{fold}
use Rattle.acc_txn.specs.Meaning.{and_plus, total_of}
use Rattle.acc_txn.proofs.evaluate.total.Given as goal

abbrev pub invariant-loop-part : goal.invariant-loop-part
invariant-loop-part l = fold (and_plus l.bound) (Ok l.total) (drop l.part-index l.rest) ≡ total_of l.bound l.first l.rest
