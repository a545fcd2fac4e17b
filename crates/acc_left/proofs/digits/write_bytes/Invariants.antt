-- The pairs before this place are written.
use Rattle.std.proofs.Common.{◌≡◌, ◌*◌, ◌≤◌, ◌-◌, length, take, drop}
use Rattle.hex.specs.Hex.{decode_pairs}
use Rattle.hex.proofs.Pairs.{prepend}
use Rattle.acc_left.proofs.digits.write_bytes.Given as goal

abbrev pub invariant-loop-bytes : goal.invariant-loop-bytes
invariant-loop-bytes l = record {
  within : l.place ≤ length l.bytes;
  fits : length l.digits ≡ 2 * length l.bytes;
  written : decode_pairs 0 l.digits ≡ prepend (take l.place l.bytes) (decode_pairs (2 * l.place) (drop (2 * l.place) l.digits));
}

abbrev pub decreases-loop-bytes : goal.decreases-loop-bytes
decreases-loop-bytes l = length l.bytes - l.place

abbrev pub invariant-loop-rest : goal.invariant-loop-rest
invariant-loop-rest l = record {
  fits : length l.digits ≡ 2 * length l.bytes;
  written : decode_pairs 0 l.digits ≡ prepend (take l.rest l.bytes) (decode_pairs (2 * l.rest) (drop (2 * l.rest) l.digits));
}
