-- The length of those so far.
use Rattle.std.proofs.Common.{◌≡◌, ◌≤◌, ◌*◌, length, take}
use Rattle.std.specs.List.{flat_map}
use Rattle.acc_txn.specs.BodySpelling.{part_bytes}
use Rattle.acc_txn.proofs.lengths.each_part_length.Given as goal

abbrev pub invariant-loop-part : goal.invariant-loop-part
invariant-loop-part l = record {
  exact : l.total ≡ length (flat_map part_bytes (take l.part-index l.parts));
  most : l.total ≤ 258 * l.part-index;
}
