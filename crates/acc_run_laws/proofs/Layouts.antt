-- The nodes and the stores of a layout are its actors.
use Rattle.std.proofs.Common.{◌≡◌, ℕ, zero, suc, ◌+◌, ◌-◌, ◌≤◌, ◌<◌, ◌==◌, true, IsTrue, List, [], ◌∷◌, length, map, slice_index_or, refl, sym, subst, arith}
use Rattle.std.proofs.lemmas.Bool.{eqb-true, eq-eqb}
use Rattle.acc_stamp.specs.declared.actors.Actor.{Actor}
use Rattle.acc_stamp.specs.Actor.{actor_of}
use Rattle.acc_topology.specs.Layout.{Layout, Shard, no_shard, shard_at, HasShard, IsLayout}
use Rattle.acc_topology.specs.Sets.{is_among}
use Rattle.acc_txn.specs.declared.parts.BodyParts.{BodyParts}
use Rattle.acc_message.specs.Shares.{shards_used, stores_of_shard, stores_used}
use Rattle.acc_message.specs.Run.{Cluster, IsHomeOf, IsNodeOf}
use Rattle.acc_safety.specs.Valid.{IsValidCluster}
use Rattle.acc_safety.specs.Places.{IsIn}
use Rattle.acc_safety.proofs.PlaceOrder.{IsIn-append_left, IsIn-append_right, IsIn-flat_map, IsIn-map, map-IsIn, passing, any_from}
use Rattle.acc_safety.proofs.Meetings.{used-HasShard}
use Rattle.acc_run_laws.proofs.RunBounds.{get_each}
use Rattle.acc_schedule.specs.Actors.{actors, stores_from}

pub is_in_among : (n : ℕ) (ns : List ℕ) → is_among ns n ≡ true → IsIn n ns
is_in_among n ns h = let p = passing (λ m. m == n) ns h in subst (λ k. IsIn k ns) (eqb-true p.element n p.passes) p.there

among : (n : ℕ) (ns : List ℕ) → IsIn n ns → is_among ns n ≡ true
among n ns there = any_from (λ m. m == n) n ns there (eq-eqb n n refl)

-- ---- nodes

pub node_is : (layout : Layout) (node : ℕ) → IsTrue (is_among layout.nodes node) → IsIn (actor_of node 0) (actors layout)
node_is layout node h =
    IsIn-append_left (actor_of node 0) (map (λ n. actor_of n 0) layout.nodes) (stores_from 1 layout.shards)
    (map-IsIn (λ n. actor_of n 0) node layout.nodes (is_in_among node layout.nodes h))

pub at_node : (layout : Layout) (a : Actor) → IsNodeOf layout a → IsIn a (actors layout)
at_node layout a h = subst (λ b. IsIn b (actors layout)) (sym h.2) (node_is layout h.0 h.1)

pub at_home : (cluster : Cluster) → IsValidCluster cluster → (txn : ℕ) (a : Actor) → IsHomeOf cluster txn a → IsIn a (actors cluster.layout)
at_home cluster valid txn a h =
    subst (λ b. IsIn b (actors cluster.layout)) (sym h.2)
    (node_is cluster.layout h.0 (get_each (λ node. IsTrue (is_among cluster.layout.nodes node)) cluster.homes txn h.0 valid.homes h.1))

-- ---- stores

first_is : (n : ℕ) → n ≡ n + 0
first_is n = omega arith

next_is : (n k : ℕ) → n + 1 + k ≡ n + suc k
next_is n k = omega arith

store_among : (node first k : ℕ) (shards : List Shard) → k < length shards → IsIn node (slice_index_or shards k no_shard).replicas
    → IsIn (actor_of node (first + k)) (stores_from first shards)
store_among node first k [] short there = absurd (omega (arith, short))
store_among node first zero (s ∷ shards) short there =
    subst (λ n. IsIn (actor_of node n) (stores_from first (s ∷ shards))) (first_is first)
    (IsIn-append_left (actor_of node first) (map (λ n. actor_of n first) s.replicas) (stores_from (first + 1) shards)
    (map-IsIn (λ n. actor_of n first) node s.replicas there))
store_among node first (suc k) (s ∷ shards) short there =
    subst (λ n. IsIn (actor_of node n) (stores_from first (s ∷ shards))) (next_is first k)
    (IsIn-append_right (actor_of node (first + 1 + k)) (map (λ n. actor_of n first) s.replicas) (stores_from (first + 1) shards)
    (store_among node (first + 1) k shards (less k (length shards) short) there))
  where
    less : (k n : ℕ) → suc k < suc n → k < n
    less k n lt = omega (arith, lt)

pub store_is : (layout : Layout) (node shard : ℕ) → HasShard layout shard → IsIn node (shard_at layout shard).replicas
    → IsIn (actor_of node shard) (actors layout)
store_is layout node shard has there =
    subst (λ n. IsIn (actor_of node n) (actors layout)) (back shard has.0)
    (IsIn-append_right (actor_of node (1 + (shard - 1))) (map (λ n. actor_of n 0) layout.nodes) (stores_from 1 layout.shards)
    (store_among node 1 (shard - 1) layout.shards (within shard (length layout.shards) has.0 has.1) there))
  where
    back : (n : ℕ) → 1 ≤ n → 1 + (n - 1) ≡ n
    back n le = omega (arith, le)

    within : (n count : ℕ) → 1 ≤ n → n ≤ count → n - 1 < count
    within n count le most = omega (arith, le, most)

-- the stores that a body uses
pub used_is : (layout : Layout) → IsLayout layout → (body : BodyParts) (store : Actor) → IsIn store (stores_used layout body) → IsIn store (actors layout)
used_is layout valid body store there =
    let s = IsIn-flat_map (stores_of_shard layout) store (shards_used layout body) there in
    let n = IsIn-map (λ node. actor_of node s.source) store (shard_at layout s.source).replicas s.within in
    subst (λ b. IsIn b (actors layout)) (sym n.is)
    (store_is layout n.source s.source (used-HasShard layout body s.source valid (among s.source (shards_used layout body) s.there)) n.there)
