-- Those so far are spelled, and fit.
use Rattle.std.proofs.Common.{◌≡◌, ◌++◌, take}
use Rattle.std.specs.List.{flat_map, AllByRecursion}
use Rattle.acc_txn.specs.BodySpelling.{part_bytes}
use Rattle.acc_txn.specs.Short.{IsTerm}
use Rattle.acc_txn.proofs.writing.put_each_part.Given as goal

abbrev pub invariant-loop-part : goal.invariant-loop-part
invariant-loop-part l = record {
  spelled : l.out ≡ l.fn.out ++ flat_map part_bytes (take l.part-index l.parts);
  fits : AllByRecursion (λ part. IsTerm part.term) (take l.part-index l.parts);
}
