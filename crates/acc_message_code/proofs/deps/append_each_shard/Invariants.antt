-- Those so far are spelled, and the stamps in them fit.
use Rattle.std.proofs.Common.{◌≡◌, ◌++◌, take}
use Rattle.std.specs.List.{flat_map, AllByRecursion}
use Rattle.acc_message_code.specs.Spelling.{shard_bytes}
use Rattle.acc_message_code.specs.Fitting.{FitStamps}
use Rattle.acc_message_code.proofs.deps.append_each_shard.Given as goal

abbrev pub invariant-loop-shard : goal.invariant-loop-shard
invariant-loop-shard l = record {
  spelled : l.out.items ≡ l.fn.out.items ++ flat_map shard_bytes (take l.shard-index l.shards);
  stamps : AllByRecursion (λ d. FitStamps d.ids) (take l.shard-index l.shards);
}
