use Rattle.std.proofs.Common.{subst, ◌≡◌, true, ap, arith}
use Rattle.std.specs.Prelude.{slice_index}
use Rattle.acc_topology.specs.Sets.{in_set, is_among}
use Rattle.acc_topology.specs.Layout.{HasShard, shard_at}
use Rattle.acc_topology.specs.Quorums.{is_majority}
use Rattle.acc_quorum.specs.Answers.{has_answered}
use Rattle.acc_tally.proofs.Everywhere.{all_by, among_members, not_all_by}
use Rattle.acc_tally.proofs.Counted.{marked_at}
use Rattle.acc_tally.proofs.tally.Tally.majority_everywhere.Goals as goal

pub returns-then-not-is_majority : goal.returns-then-not-is_majority
returns-then-not-is_majority c = λ shards answers exist stands.
    let layout = c.args.topology.now in
    let is_there : in_set c.args.self.now.shards c.loop-shard.shard ≡ true = cc in
    not_all_by c.args.self.now.shards shards (λ s. is_majority (shard_at layout s) (in_set (slice_index c.args.self.now.answered s))) (λ s. is_majority (shard_at layout s) (has_answered answers s)) stands.shards_are (omega arith)
    (λ s small. ap (is_majority (shard_at layout s)) (marked_at c.args.self.now.answered (has_answered answers) s stands.answered small))
    c.loop-shard.shard (omega arith) is_there cc

pub returns : goal.returns
returns c = λ shards answers exist stands.
    let layout = c.args.topology.now in
    all_by c.args.self.now.shards shards (λ s. is_majority (shard_at layout s) (in_set (slice_index c.args.self.now.answered s))) (λ s. is_majority (shard_at layout s) (has_answered answers s)) stands.shards_are (omega arith)
    (λ s small. ap (is_majority (shard_at layout s)) (marked_at c.args.self.now.answered (has_answered answers) s stands.answered small))
    (λ s small e.
    let has : HasShard layout s = exist s (subst (λ ns. is_among ns s ≡ true) stands.shards_are (among_members c.args.self.now.shards s (omega arith) e)) in
    c.loop-shard.invariant s has.0 (omega arith) e)
