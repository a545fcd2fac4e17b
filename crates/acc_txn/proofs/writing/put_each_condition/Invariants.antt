-- Those so far are spelled, and fit.
use Rattle.std.proofs.Common.{◌≡◌, ◌++◌, take}
use Rattle.std.specs.List.{flat_map, AllByRecursion}
use Rattle.acc_txn.specs.BodySpelling.{condition_bytes}
use Rattle.acc_txn.specs.Short.{HasTerms}
use Rattle.acc_txn.proofs.writing.put_each_condition.Given as goal

abbrev pub invariant-loop-guard : goal.invariant-loop-guard
invariant-loop-guard l = record {
  spelled : l.out ≡ l.fn.out ++ flat_map condition_bytes (take l.guard-index l.guards);
  fits : AllByRecursion HasTerms (take l.guard-index l.guards);
}
