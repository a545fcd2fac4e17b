-- The length of those so far.
use Rattle.std.proofs.Common.{◌≡◌, ◌≤◌, ◌*◌, ◌^◌, length, take}
use Rattle.std.specs.List.{flat_map}
use Rattle.acc_message_code.specs.Spelling.{shard_bytes}
use Rattle.acc_message_code.proofs.lengths.shards_length.Given as goal

abbrev pub invariant-loop-shard : goal.invariant-loop-shard
invariant-loop-shard l = record {
  exact : l.total ≡ length (flat_map shard_bytes (take l.shard-index l.shards));
  most : l.total ≤ 2 ^ 20 * l.shard-index;
}
