-- The cells of the names so far.
use Rattle.std.proofs.Common.{◌≡◌, map, take}
use Rattle.acc_txn.specs.Meaning.{named}
use Rattle.acc_txn.proofs.evaluate.cells_named.Given as goal

abbrev pub invariant-loop-name : goal.invariant-loop-name
invariant-loop-name l = l.values.items ≡ map (named l.bound) (take l.name-index l.names)
