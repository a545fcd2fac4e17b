-- A body that uses a key has stores.
use Rattle.std.proofs.Common.{◌≡◌, ◌==◌, ◌<◌, ◌-◌, ℕ, zero, suc, Bool, true, List, [], ◌∷◌, ◌++◌, length, Some, IsTrue, map, refl, ◌∙◌, subst, ⊎_elim, arith}
use Rattle.std.specs.Prelude.{slice_index_or}
use Rattle.std.specs.List.{AllByRecursion, flat_map}
use Rattle.std.proofs.lemmas.Bool.{false≢true, or_cases, eqb-true}
use Rattle.acc_stamp.specs.declared.actors.Actor.{Actor}
use Rattle.acc_stamp.specs.Actor.{actor_of}
use Rattle.acc_topology.specs.Layout.{Layout, Shard, no_shard, shard_at, HoldsKey, IsLayout, IsShard, is_replica_count}
use Rattle.acc_topology.specs.Keys.{shard_of_key, shards_of}
use Rattle.acc_topology.specs.Sets.{is_among}
use Rattle.acc_topology.proofs.Ends.{shard_of-holds}
use Rattle.acc_topology.proofs.Listed.{is_among-in_order}
use Rattle.acc_value.specs.declared.key.Key.{Key}
use Rattle.acc_value.specs.Pairs.{find}
use Rattle.acc_txn.specs.declared.parts.BodyParts.{BodyParts}
use Rattle.acc_txn.specs.Uses.{footprint_of}
use Rattle.acc_message.specs.Shares.{shards_used, stores_of_shard, stores_used}
use Rattle.acc_safety_laws.proofs.NodeReads.{found_shard, shards_are_small}

none_first : {T : Type 0} (x : T) (xs : List T) → x ∷ xs ≡ [] → ⊥
none_first x xs e = cc

parts_none : {T : Type 0} (xs ys : List T) → xs ++ ys ≡ [] → (xs ≡ []) × (ys ≡ [])
parts_none [] ys e = (refl, e)
parts_none (x ∷ xs) ys e = absurd (none_first x (xs ++ ys) e)

none_mapped : {S T : Type 0} (f : S → T) (xs : List S) → map f xs ≡ [] → xs ≡ []
none_mapped f [] e = refl
none_mapped f (x ∷ xs) e = absurd (none_first (f x) (map f xs) e)

none_of_one : (f : ℕ → List Actor) (ns : List ℕ) (n : ℕ) → is_among ns n ≡ true → flat_map f ns ≡ [] → f n ≡ []
none_of_one f [] n among e = absurd (false≢true among)
none_of_one f (m ∷ ns) n among e =
    let parts = parts_none (f m) (flat_map f ns) e in
    ⊎_elim (λ same. subst (λ k. f k ≡ []) (eqb-true m n same) parts.0) (λ later. none_of_one f ns n later parts.1) (or_cases (m == n) (is_among ns n) among)

shard_is : (nodes : List ℕ) (shards : List Shard) (i : ℕ) → AllByRecursion (IsShard nodes) shards → i < length shards → IsShard nodes (slice_index_or shards i no_shard)
shard_is nodes [] i each within = absurd (omega arith)
shard_is nodes (s ∷ shards) zero each within = each.0
shard_is nodes (s ∷ shards) (suc i) each within = shard_is nodes shards i each.1 (omega arith)

some_replica : (replicas : List ℕ) → IsTrue (is_replica_count (length replicas)) → replicas ≡ [] → ⊥
some_replica [] count e = false≢true count
some_replica (n ∷ replicas) count e = none_first n replicas e

pub used_key_has_stores : (layout : Layout) (body : BodyParts) (key : Key) (w : Bool) → IsLayout layout → find (footprint_of body) key ≡ Some w
    → stores_used layout body ≡ [] → ⊥
used_key_has_stores layout body key w is found none =
    some_replica (shard_at layout (shard_of_key layout key)).replicas
    (shard_is layout.nodes layout.shards (shard_of_key layout key - 1) is.shards (omega (arith, held.exists.0, held.exists.1))).count
    (none_mapped (λ node. actor_of node (shard_of_key layout key)) (shard_at layout (shard_of_key layout key)).replicas
    (none_of_one (stores_of_shard layout) (shards_used layout body) (shard_of_key layout key) among none))
  where
    held : HoldsKey layout (shard_of_key layout key) key.key
    held = shard_of-holds layout key.key is.ends

    among : is_among (shards_used layout body) (shard_of_key layout key) ≡ true
    among =
        is_among-in_order (shards_of layout (footprint_of body)) (shards_are_small layout (footprint_of body) is) (shard_of_key layout key)
        ∙ found_shard layout (footprint_of body) key w found
