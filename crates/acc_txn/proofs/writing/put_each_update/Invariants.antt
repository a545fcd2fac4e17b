-- Those so far are spelled, and fit.
use Rattle.std.proofs.Common.{◌≡◌, ◌++◌, take}
use Rattle.std.specs.List.{flat_map, AllByRecursion}
use Rattle.acc_txn.specs.BodySpelling.{update_bytes}
use Rattle.acc_txn.specs.Short.{SetsTerms}
use Rattle.acc_txn.proofs.writing.put_each_update.Given as goal

abbrev pub invariant-loop-update : goal.invariant-loop-update
invariant-loop-update l = record {
  spelled : l.out ≡ l.fn.out ++ flat_map update_bytes (take l.update-index l.updates);
  fits : AllByRecursion SetsTerms (take l.update-index l.updates);
}
