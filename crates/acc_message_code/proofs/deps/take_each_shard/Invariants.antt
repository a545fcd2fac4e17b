-- What is read so far, and reading on from here, give what reading gives.
use Rattle.std.proofs.Common.{◌≡◌, ◌-◌, []}
use Rattle.acc_code.specs.Reading.{each_at}
use Rattle.acc_message_code.specs.Reading.{shard_at}
use Rattle.acc_message_code.proofs.deps.take_each_shard.Given as goal

abbrev pub invariant-loop : goal.invariant-loop
invariant-loop l = each_at shard_at (l.count - l.counter) l.deps l.reader ≡ each_at shard_at l.count [] l.fn.reader
