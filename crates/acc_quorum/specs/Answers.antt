-- Plain answers of stores, as quorums count them, and the counts over a list of them, the newest first, and a list of shards.
--     has_answered, has_kept, has_changed      whether a store of a shard, named by its node, has answered in this way
--     majority_everywhere, fast_everywhere      quorums in each of the shards
--     fast_lost_somewhere, may_be_fast_everywhere      whether there may still be a fast quorum
--     greatest, union_of      the greatest timestamp, and the dependencies of all
use Rattle.std.specs.Prelude.{ℕ, Bool, not, ◌&&◌, List, [], ◌∷◌, if◌then◌else◌}
use Rattle.std.specs.List.{list_any, list_all}
use Rattle.acc_stamp.specs.declared.stamps.Stamp.{Stamp}
use Rattle.acc_stamp.specs.declared.actors.Actor.{Actor}
use Rattle.acc_stamp.specs.Actor.{actor_of, actor_eq}
use Rattle.acc_stamp.specs.Stamp.{stamp_lt, zero_stamp}
use Rattle.acc_topology.specs.Layout.{Layout, shard_at}
use Rattle.acc_topology.specs.Quorums.{is_majority, is_fast, fast_lost, may_be_fast}
use Rattle.acc_deps.specs.declared.shards.ShardDeps.{ShardDeps}
use Rattle.acc_deps.specs.Deps.{deps_union}

-- An answer of a store: whether it votes for the transaction's own timestamp, the timestamp for which it votes, and the
-- dependencies that it names. An answer without a vote has the least timestamp.
pub record Answer : Type 0 where
  pub store : Actor
  pub unchanged : Bool
  pub t : Stamp
  pub deps : List ShardDeps

-- ---- who has answered

abbrev pub is_from : ℕ → ℕ → Answer → Bool
is_from shard node a = actor_eq a.store (actor_of node shard)

abbrev pub has_answered : List Answer → ℕ → ℕ → Bool
has_answered answers shard node = list_any (is_from shard node) answers

-- it voted for the transaction's own timestamp, or for another
abbrev pub has_kept : List Answer → ℕ → ℕ → Bool
has_kept answers shard node = list_any (λ a. is_from shard node a && a.unchanged) answers

abbrev pub has_changed : List Answer → ℕ → ℕ → Bool
has_changed answers shard node = list_any (λ a. is_from shard node a && not a.unchanged) answers

-- ---- quorums

abbrev pub majority_everywhere : Layout → List ℕ → List Answer → Bool
majority_everywhere layout shards answers = list_all (λ s. is_majority (shard_at layout s) (has_answered answers s)) shards

abbrev pub fast_everywhere : Layout → List ℕ → List Answer → Bool
fast_everywhere layout shards answers = list_all (λ s. is_fast (shard_at layout s) (has_kept answers s)) shards

abbrev pub fast_lost_somewhere : Layout → List ℕ → List Answer → Bool
fast_lost_somewhere layout shards answers = list_any (λ s. fast_lost (shard_at layout s) (has_changed answers s)) shards

abbrev pub may_be_fast_everywhere : Layout → List ℕ → List Answer → Bool
may_be_fast_everywhere layout shards answers =
    list_all (λ s. may_be_fast (shard_at layout s) (has_answered answers s) (has_kept answers s)) shards

-- ---- what they say together

abbrev pub later_stamp : Stamp → Stamp → Stamp
later_stamp a b = if stamp_lt a b then b else a

abbrev pub greatest : List Answer → Stamp
greatest [] = zero_stamp
greatest (a ∷ answers) = later_stamp (greatest answers) a.t

abbrev pub union_of : List Answer → List ShardDeps
union_of [] = []
union_of (a ∷ answers) = deps_union (union_of answers) a.deps
