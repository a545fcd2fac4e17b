use Rattle.std.proofs.Common.{◌≡◌, true, false, sym, arith}
use Rattle.acc_topology.specs.Sets.{in_set}
use Rattle.acc_tally.proofs.Everywhere.{everywhere, somewhere_not}
use Rattle.acc_coord.proofs.reads.Reads.has_all.Goals as goal

pub returns : goal.returns
returns c = sym (everywhere c.args.shards (in_set c.args.self.now.heard) (omega arith) (λ s small e. c.loop-shard.invariant s (omega arith) e))

pub returns-then-not-contains : goal.returns-then-not-contains
returns-then-not-contains c =
    let is_there : in_set c.args.shards c.loop-shard.shard ≡ true = cc in
    let unheard : in_set c.args.self.now.heard c.loop-shard.shard ≡ false = cc in
    sym (somewhere_not c.args.shards c.loop-shard.shard (in_set c.args.self.now.heard) (omega arith) is_there unheard)
