-- The counts that decide, over the replicas of a shard and over its electorate. A set of nodes is a test on node numbers.
-- Source: the paper by Elliott Smith, Zhang, Eggleston and Andreas; CEP-15.
use Rattle.std.specs.Prelude.{◌≡◌, ℕ, ◌+◌, ◌-◌, ◌/◌, nat_le, nat_lt, Bool, not, ◌&&◌, IsTrue, List, length, count_by, Contains}
use Rattle.acc_topology.specs.Sets.{is_among}
use Rattle.acc_topology.specs.Layout.{Layout, Shard, IsLayout, HasShard, shard_at}

-- f, where there are 2f + 1 replicas
abbrev pub tolerated : Shard → ℕ
tolerated s = length s.replicas / 2

abbrev pub majority_size : Shard → ℕ
majority_size s = tolerated s + 1

abbrev pub half_rounded_up : ℕ → ℕ
half_rounded_up n = (n + 1) / 2

-- (|E| + f + 1) / 2, rounded up, where E is the electorate
abbrev pub fast_size : Shard → ℕ
fast_size s = half_rounded_up (length s.electorate + tolerated s + 1)

-- the replicas that answered are a majority
abbrev pub is_majority : Shard → (ℕ → Bool) → Bool
is_majority s answered = nat_le (majority_size s) (count_by answered s.replicas)

-- the unchanged votes make a fast path
abbrev pub is_fast : Shard → (ℕ → Bool) → Bool
is_fast s votes = nat_le (fast_size s) (count_by votes s.electorate)

-- so many votes have changed that the others can't make a fast path
abbrev pub fast_lost : Shard → (ℕ → Bool) → Bool
fast_lost s changed = nat_lt (length s.electorate - fast_size s) (count_by changed s.electorate)

-- the unchanged votes of those that answered may have made a fast path together with those that didn't
abbrev pub may_be_fast : Shard → (ℕ → Bool) → (ℕ → Bool) → Bool
may_be_fast s answered votes =
    nat_le (fast_size s - count_by (λ n. not (answered n)) s.electorate) (count_by (λ n. answered n && votes n) s.electorate)

-- ---- laws

-- some replica of the shard is in both sets
abbrev pub Meet : Shard → (ℕ → Bool) → (ℕ → Bool) → Type 0
Meet s a b = (n : ℕ) × IsTrue (is_among s.replicas n) × IsTrue (a n) × IsTrue (b n)

-- what holds of each shard of each accepted layout
abbrev pub OfEachShard : (Shard → Type 0) → Type 0
OfEachShard P = (layout : Layout) (shard : ℕ) → IsLayout layout → HasShard layout shard → P (shard_at layout shard)

-- where there are so many replicas, the sizes of the electorate and of a fast quorum are one of these pairs
abbrev pub FastSizesAre : ℕ → List (ℕ × ℕ) → Type 0
FastSizesAre replicas sizes =
    OfEachShard (λ s. length s.replicas ≡ replicas → Contains sizes (length s.electorate, fast_size s))
