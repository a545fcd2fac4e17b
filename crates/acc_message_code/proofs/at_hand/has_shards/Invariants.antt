-- Those so far were found, and fit.
use Rattle.std.proofs.Common.{◌≡◌, ◌++◌, take}
use Rattle.std.specs.List.{flat_map, AllByRecursion}
use Rattle.acc_message_code.specs.Spelling.{shard_bytes}
use Rattle.acc_message_code.specs.Short.{IsShortShard}
use Rattle.acc_message_code.specs.Fitting.{FitStamps}
use Rattle.acc_message_code.proofs.at_hand.has_shards.Given as goal

abbrev pub invariant-loop-shard : goal.invariant-loop-shard
invariant-loop-shard l = record {
  spelled : l.fn.reader.bytes ≡ flat_map shard_bytes (take l.shard-index l.shards) ++ l.reader.bytes;
  short : AllByRecursion IsShortShard (take l.shard-index l.shards);
  stamps : AllByRecursion (λ d. FitStamps d.ids) (take l.shard-index l.shards);
}
