-- The stores of a transaction are few, and their numbers have two bytes.
use Rattle.std.proofs.Common.{◌≡◌, ℕ, zero, suc, ◌+◌, ◌*◌, ◌-◌, ◌<◌, ◌≤◌, ◌^◌, Bool, not, List, [], ◌∷◌, ◌++◌, length, map, filter, refl, sym, subst, arith, length-append}
use Rattle.std.specs.Prelude.{slice_index_or}
use Rattle.std.specs.List.{All, AllByRecursion, flat_map, range_with_len}
use Rattle.std.proofs.lemmas.List.{length-map}
use Rattle.std.proofs.lemmas.List.Elements.{All-nil, All-map, All-append, All-filter, recursion_from_All}
use Rattle.std.proofs.lemmas.List.Filters.{length-filter_both}
use Rattle.std.proofs.lemmas.List.FromFn.{get_or-range_with_len, length-range_with_len}
use Rattle.acc_stamp.specs.declared.actors.Actor.{Actor}
use Rattle.acc_stamp.specs.Actor.{actor_of}
use Rattle.acc_topology.specs.Sets.{numbers, in_order, is_among, IsPartOf}
use Rattle.acc_topology.specs.Layout.{Layout, Shard, IsLayout, IsShard, no_shard, shard_at, node_numbers}
use Rattle.acc_topology.specs.Keys.{shards_of}
use Rattle.acc_txn.specs.declared.parts.BodyParts.{BodyParts}
use Rattle.acc_txn.specs.Uses.{footprint_of}
use Rattle.acc_message.specs.Shares.{shards_used, stores_of_shard, stores_used}

-- at most so many numbers, none above 15
record AreSmall (most : ℕ) (ns : List ℕ) : Type 0 where
  small : All (λ n. n ≤ 15) ns
  few : length ns ≤ most

range_small : (from most : ℕ) → from + most ≤ 16 → AreSmall most (range_with_len from most)
range_small from most within =
    record {
      small = λ k d h.
          let has : length (range_with_len from most) ≡ most = length-range_with_len from most in
          let e : slice_index_or (range_with_len from most) k d ≡ from + k = get_or-range_with_len from most k d (omega arith) in
          omega arith;
      few = omega (arith, length-range_with_len from most);
    }

filter_small : (p : ℕ → Bool) (most : ℕ) (ns : List ℕ) → AreSmall most ns → AreSmall most (filter p ns)
filter_small p most ns are =
    record {
      small = All-filter p (λ n. n ≤ 15) ns are.small;
      few = omega (arith, are.few, length-filter_both p (λ n. not (p n)) (λ n. refl) ns);
    }

part_small : (most : ℕ) (part whole : List ℕ) → IsPartOf part whole → AreSmall most whole → AreSmall most part
part_small most part whole is are = subst (AreSmall most) (sym is) (filter_small (is_among part) most whole are)

-- the replicas of a shard
shard_small : (nodes : List ℕ) (shards : List Shard) (i : ℕ) → AreSmall 15 nodes → AllByRecursion (IsShard nodes) shards
    → AreSmall 15 (slice_index_or shards i no_shard).replicas
shard_small nodes [] i are each = record { small = All-nil (λ n. n ≤ 15); few = omega arith }
shard_small nodes (s ∷ shards) zero are each = part_small 15 s.replicas nodes each.0.replicas are
shard_small nodes (s ∷ shards) (suc i) are each = shard_small nodes shards i are each.1

replicas_small : (layout : Layout) (shard : ℕ) → IsLayout layout → AreSmall 15 (shard_at layout shard).replicas
replicas_small layout shard valid =
    shard_small layout.nodes layout.shards (shard - 1) (part_small 15 layout.nodes node_numbers valid.nodes (range_small 1 15 (omega arith))) valid.shards

-- the stores of shards
pub record AreShort (most : ℕ) (stores : List Actor) : Type 0 where
  pub numbers : All (λ (a : Actor). a.0 < 2 ^ 16) stores
  pub few : length stores ≤ most

stores_short : (layout : Layout) (shard : ℕ) → IsLayout layout → shard ≤ 15 → AreShort 15 (stores_of_shard layout shard)
stores_short layout shard valid small =
    let are = replicas_small layout shard valid in
    record {
      numbers =
          All-map (λ (a : Actor). a.0 < 2 ^ 16) (λ node. actor_of node shard) (shard_at layout shard).replicas
          (λ k d h. let n : slice_index_or (shard_at layout shard).replicas k d ≤ 15 = are.small k d h in omega arith);
      few = omega (arith, are.few, length-map (shard_at layout shard).replicas (λ node. actor_of node shard));
    }

all_short : (layout : Layout) (shards : List ℕ) → IsLayout layout → AllByRecursion (λ n. n ≤ 15) shards
    → AreShort (15 * length shards) (flat_map (stores_of_shard layout) shards)
all_short layout [] valid small = record { numbers = All-nil (λ (a : Actor). a.0 < 2 ^ 16); few = omega arith }
all_short layout (s ∷ shards) valid small =
    let here = stores_short layout s valid small.0 in
    let rest = all_short layout shards valid small.1 in
    record {
      numbers = All-append (λ (a : Actor). a.0 < 2 ^ 16) (stores_of_shard layout s) (flat_map (stores_of_shard layout) shards) here.numbers rest.numbers;
      few = omega (arith, here.few, rest.few, length-append (stores_of_shard layout s) (flat_map (stores_of_shard layout) shards));
    }

used_small : (layout : Layout) (body : BodyParts) → AreSmall 16 (shards_used layout body)
unfolding numbers
used_small layout body = filter_small (is_among (shards_of layout (footprint_of body))) 16 (range_with_len 0 16) (range_small 0 16 (omega arith))

pub used_short : (layout : Layout) (body : BodyParts) → IsLayout layout → AreShort 240 (stores_used layout body)
used_short layout body valid =
    let are = used_small layout body in
    let short = all_short layout (shards_used layout body) valid (recursion_from_All (λ n. n ≤ 15) (shards_used layout body) are.small) in
    record { numbers = short.numbers; few = omega (arith, are.few, short.few) }
