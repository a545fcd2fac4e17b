-- The updates that are left lead from the writes so far to all writes.
use Rattle.std.proofs.Common.{◌≡◌, drop}
use Rattle.acc_txn.specs.Meaning.{writes_of, final}
use Rattle.acc_txn.proofs.Written.{after}
use Rattle.acc_txn.proofs.evaluate.write.Given as goal

abbrev pub invariant-loop-update : goal.invariant-loop-update
invariant-loop-update l =
    after l.writes (writes_of l.bound (drop l.update-index l.updates)) ≡ final (writes_of l.bound l.updates)
