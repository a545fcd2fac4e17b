-- The length of those so far.
use Rattle.std.proofs.Common.{◌≡◌, ◌≤◌, ◌*◌, length, take}
use Rattle.std.specs.List.{flat_map}
use Rattle.acc_txn.specs.BodySpelling.{update_bytes}
use Rattle.acc_txn.proofs.lengths.updates_length.Given as goal

abbrev pub invariant-loop-update : goal.invariant-loop-update
invariant-loop-update l = record {
  exact : l.total ≡ length (flat_map update_bytes (take l.update-index l.updates));
  most : l.total ≤ 262144 * l.update-index;
}
