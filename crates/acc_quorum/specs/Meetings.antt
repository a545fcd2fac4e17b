-- What two quorums of answers have in common: a store of a shard that is in both, and what it answered in each.
use Rattle.std.specs.Prelude.{ℕ, Bool, IsTrue, List}
use Rattle.acc_topology.specs.Layout.{Layout, HasShard, IsLayout, shard_at}
use Rattle.acc_topology.specs.Sets.{is_among}
use Rattle.acc_quorum.specs.Answers.{Answer}

-- A replica of the shard, named by its node, that passes one test and another: tests such as that it is among the answers, or
-- has voted for a transaction's own timestamp in them.
pub record MeetAt (layout : Layout) (one other : ℕ → ℕ → Bool) (shard : ℕ) : Type 0 where
  pub node : ℕ
  pub replica : IsTrue (is_among (shard_at layout shard).replicas node)
  pub first : IsTrue (one shard node)
  pub second : IsTrue (other shard node)

-- they meet in some one of the shards
pub record MeetSomewhere (layout : Layout) (one other : ℕ → ℕ → Bool) (shards : List ℕ) : Type 0 where
  pub shard : ℕ
  pub used : IsTrue (is_among shards shard)
  pub meet : MeetAt layout one other shard

-- an accepted layout, and one of its shards that is among these and among those
pub record InCommon (layout : Layout) (shards others : List ℕ) (shard : ℕ) : Type 0 where
  pub accepted : IsLayout layout
  pub exists : HasShard layout shard
  pub used : IsTrue (is_among shards shard)
  pub used_too : IsTrue (is_among others shard)

-- an accepted layout that has each of these shards
pub record AreShardsOf (layout : Layout) (shards : List ℕ) : Type 0 where
  pub accepted : IsLayout layout
  pub exist : (shard : ℕ) → IsTrue (is_among shards shard) → HasShard layout shard
