-- Each of the actors that rise is an actor of the cluster.
use Rattle.std.proofs.Common.{◌≡◌, ℕ, zero, suc, ◌+◌, ◌-◌, ◌<◌, ◌≤◌, true, List, [], ◌∷◌, length, map, filter, get_or, Contains, sym, subst, ⊎_elim, arith}
use Rattle.std.specs.Prelude.{◌==◌}
use Rattle.std.specs.List.{range_with_len}
use Rattle.std.proofs.lemmas.Bool.{eqb-true}
use Rattle.acc_stamp.specs.declared.actors.Actor.{Actor}
use Rattle.acc_stamp.specs.Actor.{actor_of}
use Rattle.acc_topology.specs.Layout.{no_shard, shard_at, Layout, Shard}
use Rattle.acc_topology.specs.Sets.{is_among}
use Rattle.acc_safety.specs.Places.{IsIn}
use Rattle.acc_safety.proofs.PlaceOrder.{none_is_in, passing, IsIn-append_left, IsIn-append_right, IsIn-cases, IsIn-Contains, IsIn-filter, IsIn-flat_map, IsIn-map, map-IsIn}
use Rattle.acc_schedule.specs.Actors.{actors, stores_from}
use Rattle.acc_left.specs.Leaves.{actors_rising, stores_at}

-- the numbers of a range
pub record InRange (from n x : ℕ) : Type 0 where
  pub least : from ≤ x
  pub below : x < from + n

pub in_range : (from n x : ℕ) → IsIn x (range_with_len from n) → InRange from n x
in_range from zero x there = absurd (none_is_in x there)
in_range from (suc n) x there =
    ⊎_elim (λ same. record { least = omega (arith, same); below = omega (arith, same) })
    (λ rest. let later = in_range (from + 1) n x rest in let l = later.least in let b = later.below in record { least = omega (arith, l); below = omega (arith, b) })
    (IsIn-cases x from (range_with_len (from + 1) n) there)

-- a store at a replica of the shard with this index
store_there : (shards : List Shard) (first index node : ℕ) → index < length shards → IsIn node (get_or shards index no_shard).replicas
    → IsIn (actor_of node (first + index)) (stores_from first shards)
store_there [] first index node within among = absurd (omega (arith, within))
store_there (shard ∷ shards) first zero node within among =
    let same : first + 0 ≡ first = omega arith in
    IsIn-append_left (actor_of node (first + 0)) (map (λ (n : ℕ). actor_of n first) shard.replicas) (stores_from (first + 1) shards)
    (subst (λ (k : ℕ). IsIn (actor_of node k) (map (λ (n : ℕ). actor_of n first) shard.replicas)) (sym same) (map-IsIn (λ (n : ℕ). actor_of n first) node shard.replicas among))
store_there (shard ∷ shards) first (suc index) node within among =
    let next : (first + 1) + index ≡ first + suc index = omega arith in
    IsIn-append_right (actor_of node (first + suc index)) (map (λ (n : ℕ). actor_of n first) shard.replicas) (stores_from (first + 1) shards)
    (subst (λ (k : ℕ). IsIn (actor_of node k) (stores_from (first + 1) shards)) next (store_there shards (first + 1) index node (omega (arith, within)) among))

among_is_in : (ns : List ℕ) (n : ℕ) → is_among ns n ≡ true → IsIn n ns
among_is_in ns n there = let p = passing (λ (m : ℕ). m == n) ns there in subst (λ (m : ℕ). IsIn m ns) (eqb-true p.element n p.passes) p.there

module _ (layout : Layout) where
  abbrev nodes_part : List Actor
  nodes_part = map (λ (n : ℕ). actor_of n 0) layout.nodes

  at_store : (node : ℕ) (a : Actor) → IsIn a (stores_at layout node) → IsIn a (actors layout)
  at_store node a there =
      let from = IsIn-map (actor_of node) a (filter (λ (shard : ℕ). is_among (shard_at layout shard).replicas node) (range_with_len 1 (length layout.shards))) there in
      let kept = IsIn-filter (λ (shard : ℕ). is_among (shard_at layout shard).replicas node) from.source (range_with_len 1 (length layout.shards)) from.there in
      let range = in_range 1 (length layout.shards) from.source kept.0 in
      let least = range.least in
      let below = range.below in
      let number : 1 + (from.source - 1) ≡ from.source = omega (arith, least) in
      subst (λ (b : Actor). IsIn b (actors layout)) (sym from.is)
      (subst (λ (k : ℕ). IsIn (actor_of node k) (actors layout)) number
      (IsIn-append_right (actor_of node (1 + (from.source - 1))) nodes_part (stores_from 1 layout.shards)
      (store_there layout.shards 1 (from.source - 1) node (omega (arith, least, below)) (among_is_in (shard_at layout from.source).replicas node kept.1))))

  pub turn_known : (a : Actor) → IsIn a (actors_rising layout) → Contains (actors layout) a
  turn_known a there =
      let part = IsIn-flat_map (λ (node : ℕ). actor_of node 0 ∷ stores_at layout node) a layout.nodes there in
      IsIn-Contains a (actors layout)
      (⊎_elim
      (λ same.
      subst (λ (b : Actor). IsIn b (actors layout)) (sym same)
      (IsIn-append_left (actor_of part.source 0) nodes_part (stores_from 1 layout.shards) (map-IsIn (λ (n : ℕ). actor_of n 0) part.source layout.nodes part.there)))
      (λ store. at_store part.source a store) (IsIn-cases a (actor_of part.source 0) (stores_at layout part.source) part.within))
