use Rattle.std.proofs.Common.{◌≡◌, ◌-◌, ◌&&◌, ◌∙◌, ap, arith, not, count_by, leb}
use Rattle.acc_topology.specs.Sets.{in_set}
use Rattle.acc_topology.specs.Quorums.{fast_size}
use Rattle.acc_topology.specs.View.{shard_view}
use Rattle.acc_topology.proofs.Bits.{in_set-and, count_by-same}
use Rattle.acc_topology.proofs.Counts.{count_by-not}
use Rattle.acc_topology.proofs.shard.Shard.may_be_fast.Goals as goal

pub returns : goal.returns
returns c =
    let s = shard_view c.args.self.now in
    let a = in_set c.args.answered in
    let v = in_set c.args.votes in
    let needed : c.saturating_sub-needed.result ≡ fast_size s - count_by (λ n. not (a n)) s.electorate =
    omega (arith, c.saturating_sub-needed.ensures, c.fast_size.ensures, c.count.ensures.value, c.common.ensures, count_by-not a s.electorate) in
    let unchanged : c.common-2.result ≡ count_by (λ n. a n && v n) s.electorate =
    c.common-2.ensures ∙ count_by-same _ (λ n. a n && v n) (in_set-and c.args.answered c.args.votes) s.electorate in
    ap (λ k. leb k c.common-2.result) needed ∙ ap (leb (fast_size s - count_by (λ n. not (a n)) s.electorate)) unchanged
