-- The shards before this one are read.
use Rattle.acc_schedule.specs.Shards.{shard_fault, shard_of}
use Rattle.acc_schedule.proofs.EachFacts.{AreRead}
use Rattle.acc_schedule.proofs.shards.shards.Given as goal

abbrev pub invariant-loop-place : goal.invariant-loop-place
invariant-loop-place l = AreRead shard_fault shard_of l.items l.place l.shards
