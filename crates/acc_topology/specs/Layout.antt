-- The layout of a cluster: its nodes, and its shards in the order of the keys that they hold.
use Rattle.std.specs.Prelude.{◌≡◌, ℕ, ◌+◌, ◌≤◌, ◌-◌, ◌/◌, ◌==◌, IsTrue, is_none, Bool, true, false, ◌&&◌, ◌||◌, List, [], ◌∷◌, length, Option, Some, None, if◌then◌else◌, slice_index_or}
use Rattle.std.specs.List.{AllByRecursion, range_with_len}
use Rattle.std.specs.Ordering.{nat_cmp, is_lt}
use Rattle.std.specs.Cmp.Lexicographic.{slice_cmp}
use Rattle.acc_topology.specs.Sets.{IsPartOf}

-- A shard holds the keys from the end of the shard before it up to its own end, or to the last key where it has none.
-- Its replicas keep them. The votes of its electorate, which is among the replicas, make a fast path.
pub record Shard : Type 0 where
  pub end : Option (List ℕ)
  pub replicas : List ℕ
  pub electorate : List ℕ

-- shards are numbered from 1
pub record Layout : Type 0 where
  pub nodes : List ℕ
  pub shards : List Shard

abbrev pub no_shard : Shard
no_shard = record { end = None; replicas = []; electorate = [] }

abbrev pub HasShard : Layout → ℕ → Type 0
HasShard layout shard = (1 ≤ shard) × (shard ≤ length layout.shards)

abbrev pub shard_at : Layout → ℕ → Shard
shard_at layout shard = slice_index_or layout.shards (shard - 1) no_shard

-- ---- keys

-- the first bytes stand before the second
abbrev pub bytes_lt : List ℕ → List ℕ → Bool
bytes_lt a b = is_lt (slice_cmp nat_cmp a b)

-- the bytes stand before the end
abbrev pub is_below : List ℕ → Option (List ℕ) → Bool
is_below bytes None = true
is_below bytes (Some end) = bytes_lt bytes end

-- how many shards stand in front of the first whose end is greater than the bytes or which has none
abbrev pub shards_before : List ℕ → List Shard → ℕ
shards_before bytes [] = 0
shards_before bytes (s ∷ shards) = if is_below bytes s.end then 0 else shards_before bytes shards + 1

-- the shard of a key with these bytes
abbrev pub shard_of : Layout → List ℕ → ℕ
shard_of layout bytes = shards_before bytes layout.shards + 1

-- the shard holds a key with these bytes: it ends after them, and the shard before it does not
pub record HoldsKey (layout : Layout) (shard : ℕ) (bytes : List ℕ) : Type 0 where
  pub exists : HasShard layout shard
  pub ends : IsTrue (is_below bytes (shard_at layout shard).end)
  pub begins : 2 ≤ shard → is_below bytes (shard_at layout (shard - 1)).end ≡ false

-- ---- which layouts are accepted

abbrev pub node_numbers : List ℕ
node_numbers = range_with_len 1 15

abbrev pub is_replica_count : ℕ → Bool
is_replica_count n = n == 1 || n == 3 || n == 5 || n == 7

-- a shard that has an end, and the end of the shard after it, which is greater or is none
abbrev pub is_end_before : Option (List ℕ) → Option (List ℕ) → Bool
is_end_before None behind = false
is_end_before (Some end) behind = is_below end behind

-- the last shard has no end, every other one has an end, and they rise
abbrev pub ends_rise : List Shard → Bool
ends_rise [] = false
ends_rise (s ∷ []) = is_none s.end
ends_rise (s ∷ t ∷ shards) = is_end_before s.end t.end && ends_rise (t ∷ shards)

-- a shard has as many replicas as it may, and its electorate is a majority of them or more
pub record IsShard (nodes : List ℕ) (s : Shard) : Type 0 where
  pub count : IsTrue (is_replica_count (length s.replicas))
  pub replicas : IsPartOf s.replicas nodes
  pub electorate : IsPartOf s.electorate s.replicas
  pub enough : length s.replicas / 2 + 1 ≤ length s.electorate

pub record IsLayout (layout : Layout) : Type 0 where
  pub some_node : 1 ≤ length layout.nodes
  pub nodes : IsPartOf layout.nodes node_numbers
  pub few_shards : length layout.shards ≤ 15
  pub shards : AllByRecursion (IsShard layout.nodes) layout.shards
  pub ends : IsTrue (ends_rise layout.shards)
