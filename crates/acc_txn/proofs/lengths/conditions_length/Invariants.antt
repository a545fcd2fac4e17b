-- The length of those so far.
use Rattle.std.proofs.Common.{◌≡◌, ◌≤◌, ◌*◌, length, take}
use Rattle.std.specs.List.{flat_map}
use Rattle.acc_txn.specs.BodySpelling.{condition_bytes}
use Rattle.acc_txn.proofs.lengths.conditions_length.Given as goal

abbrev pub invariant-loop-guard : goal.invariant-loop-guard
invariant-loop-guard l = record {
  exact : l.total ≡ length (flat_map condition_bytes (take l.guard-index l.guards));
  most : l.total ≤ 262144 * l.guard-index;
}
