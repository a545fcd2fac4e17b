use Rattle.std.proofs.Common.{subst, ◌≡◌, true, ap, arith}
use Rattle.std.specs.Prelude.{slice_index}
use Rattle.acc_topology.specs.Sets.{in_set, is_among}
use Rattle.acc_topology.specs.Layout.{HasShard, shard_at}
use Rattle.acc_topology.specs.Quorums.{fast_lost}
use Rattle.acc_quorum.specs.Answers.{has_changed}
use Rattle.acc_tally.proofs.Everywhere.{among_members, none_by, some_by}
use Rattle.acc_tally.proofs.Counted.{marked_at}
use Rattle.acc_tally.proofs.tally.Tally.fast_lost.Goals as goal

pub returns-then-fast_lost : goal.returns-then-fast_lost
returns-then-fast_lost c = λ shards answers exist stands.
    let layout = c.args.topology.now in
    let is_there : in_set c.args.self.now.shards c.loop-shard.shard ≡ true = cc in
    some_by c.args.self.now.shards shards (λ s. fast_lost (shard_at layout s) (in_set (slice_index c.args.self.now.changed s))) (λ s. fast_lost (shard_at layout s) (has_changed answers s)) stands.shards_are (omega arith)
    (λ s small. ap (fast_lost (shard_at layout s)) (marked_at c.args.self.now.changed (has_changed answers) s stands.changed small))
    c.loop-shard.shard (omega arith) is_there cc

pub returns : goal.returns
returns c = λ shards answers exist stands.
    let layout = c.args.topology.now in
    none_by c.args.self.now.shards shards (λ s. fast_lost (shard_at layout s) (in_set (slice_index c.args.self.now.changed s))) (λ s. fast_lost (shard_at layout s) (has_changed answers s)) stands.shards_are (omega arith)
    (λ s small. ap (fast_lost (shard_at layout s)) (marked_at c.args.self.now.changed (has_changed answers) s stands.changed small))
    (λ s small e.
    let has : HasShard layout s = exist s (subst (λ ns. is_among ns s ≡ true) stands.shards_are (among_members c.args.self.now.shards s (omega arith) e)) in
    c.loop-shard.invariant s has.0 (omega arith) e)
