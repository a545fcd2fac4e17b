-- The length of those so far.
use Rattle.std.proofs.Common.{◌≡◌, ◌≤◌, ◌*◌, length, take}
use Rattle.std.specs.List.{flat_map}
use Rattle.acc_txn.specs.BodySpelling.{let_bytes}
use Rattle.acc_txn.proofs.lengths.lets_length.Given as goal

abbrev pub invariant-loop-binding : goal.invariant-loop-binding
invariant-loop-binding l = record {
  exact : l.total ≡ length (flat_map let_bytes (take l.binding-index l.lets));
  most : l.total ≤ 768 * l.binding-index;
}
