use Rattle.std.proofs.Common.{◌<◌, ◌≤◌, ◌≡◌, ℕ, true, ap, subst, ◌∙◌, arith, below_more}
use Rattle.std.specs.Prelude.{slice_index}
use Rattle.acc_topology.specs.Sets.{in_set, is_among}
use Rattle.acc_topology.specs.Layout.{HasShard, shard_at}
use Rattle.acc_topology.specs.Quorums.{may_be_fast}
use Rattle.acc_quorum.specs.Answers.{has_answered, has_kept}
use Rattle.acc_tally.proofs.Everywhere.{all_by, among_members, not_all_by}
use Rattle.acc_tally.proofs.Counted.{marked_at}
use Rattle.acc_tally.proofs.tally.Tally.may_be_fast.Goals as goal
use Rattle.acc_tally.proofs.tally.Tally.may_be_fast.Goals.{else-contains-via-then-contains+else-not-may_be_fast, else-contains-via-else-contains}

pub returns-then-not-may_be_fast : goal.returns-then-not-may_be_fast
returns-then-not-may_be_fast c = λ shards answers exist stands.
    let layout = c.args.topology.now in
    let is_there : in_set c.args.self.now.shards c.loop-shard.shard ≡ true = cc in
    not_all_by c.args.self.now.shards shards (λ s. may_be_fast (shard_at layout s) (in_set (slice_index c.args.self.now.answered s)) (in_set (slice_index c.args.self.now.kept s))) (λ s. may_be_fast (shard_at layout s) (has_answered answers s) (has_kept answers s)) stands.shards_are (omega arith)
    (λ s small. ap (λ on. may_be_fast (shard_at layout s) on (in_set (slice_index c.args.self.now.kept s))) (marked_at c.args.self.now.answered (has_answered answers) s stands.answered small)
    ∙ ap (may_be_fast (shard_at layout s) (has_answered answers s)) (marked_at c.args.self.now.kept (has_kept answers) s stands.kept small))
    c.loop-shard.shard (omega arith) is_there cc

pub returns : goal.returns
returns c = λ shards answers exist stands.
    let layout = c.args.topology.now in
    all_by c.args.self.now.shards shards (λ s. may_be_fast (shard_at layout s) (in_set (slice_index c.args.self.now.answered s)) (in_set (slice_index c.args.self.now.kept s))) (λ s. may_be_fast (shard_at layout s) (has_answered answers s) (has_kept answers s)) stands.shards_are (omega arith)
    (λ s small. ap (λ on. may_be_fast (shard_at layout s) on (in_set (slice_index c.args.self.now.kept s))) (marked_at c.args.self.now.answered (has_answered answers) s stands.answered small)
    ∙ ap (may_be_fast (shard_at layout s) (has_answered answers s)) (marked_at c.args.self.now.kept (has_kept answers) s stands.kept small))
    (λ s small e.
    let has : HasShard layout s = exist s (subst (λ ns. is_among ns s ≡ true) stands.shards_are (among_members c.args.self.now.shards s (omega arith) e)) in
    c.loop-shard.invariant s has.0 (omega arith) e)

pub loop-shard-preserved : goal.loop-shard-preserved
loop-shard-preserved c =
    let layout = c.args.topology.now in
    let Holds : ℕ → Type 0 = λ s. 1 ≤ s → in_set c.args.self.now.shards s ≡ true → may_be_fast (shard_at layout s) (in_set (slice_index c.args.self.now.answered s)) (in_set (slice_index c.args.self.now.kept s)) ≡ true in
    let before : (s : ℕ) → s < c.loop-shard.shard → Holds s = λ s below from e. c.loop-shard.invariant s from below e in
    elim c.else-contains.branch [
      | else-contains-via-then-contains+else-not-may_be_fast w ↦ λ s from below. below_more Holds c.loop-shard.shard before (λ from e. cc) s below from
      | else-contains-via-else-contains w ↦ λ s from below. below_more Holds c.loop-shard.shard before (λ from e. cc) s below from
    ]
