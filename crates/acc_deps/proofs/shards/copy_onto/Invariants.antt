-- The copies so far are behind what was there.
use Rattle.std.proofs.Common.{◌≡◌, ◌++◌, take}
use Rattle.acc_deps.proofs.shards.copy_onto.Given as goal

abbrev pub invariant-loop-shard : goal.invariant-loop-shard
invariant-loop-shard l = l.copies.items ≡ l.initial.copies.items ++ take l.shard-index l.shards
