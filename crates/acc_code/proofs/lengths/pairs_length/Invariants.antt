-- The length of those so far.
use Rattle.std.proofs.Common.{◌≡◌, ◌≤◌, ◌*◌, length, take}
use Rattle.std.specs.List.{flat_map}
use Rattle.acc_code.specs.Spelling.{pair_bytes}
use Rattle.acc_code.proofs.lengths.pairs_length.Given as goal

abbrev pub invariant-loop-key : goal.invariant-loop-key
invariant-loop-key l = record {
  exact : l.total ≡ length (flat_map pair_bytes (take l.key-index l.pairs));
  most : l.total ≤ 769 * l.key-index;
}
