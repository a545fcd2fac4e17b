-- Each actor of a cluster stands among those that rise.
use Rattle.std.proofs.Common.{◌≡◌, ℕ, suc, ◌+◌, ◌-◌, ◌<◌, true, List, [], ◌∷◌, length, map, get_or, Contains, eqb, refl, sym, ◌∙◌, ap, subst, ⊎_elim, arith}
use Rattle.std.specs.List.{range_with_len, flat_map, filter}
use Rattle.std.proofs.lemmas.List.Elements.{Contains-get_or}
use Rattle.std.proofs.lemmas.List.FromFn.{get_or-range_with_len, length-range_with_len}
use Rattle.std.proofs.lemmas.Bool.{eq-eqb}
use Rattle.acc_stamp.specs.declared.actors.Actor.{Actor}
use Rattle.acc_stamp.specs.Actor.{actor_of}
use Rattle.acc_topology.specs.Layout.{Layout, Shard, IsLayout, no_shard, shard_at}
use Rattle.acc_topology.specs.Sets.{is_among}
use Rattle.acc_topology.proofs.Counts.{shard_of_layout}
use Rattle.acc_safety.specs.Places.{IsIn, First, Later}
use Rattle.acc_safety.proofs.PlaceOrder.{none_is_in, IsIn-append_cases, IsIn-append_left, IsIn-append_right, Contains-IsIn, IsIn-filter, filter-IsIn, any_from, IsIn-map, map-IsIn}
use Rattle.acc_schedule.specs.Actors.{actors, stores_from}
use Rattle.acc_left.specs.Leaves.{actors_rising, stores_at}

range_in : (a n i : ℕ) → i < n → IsIn (a + i) (range_with_len a n)
range_in a n i lt =
    let long : length (range_with_len a n) ≡ n = length-range_with_len a n in
    Contains-IsIn (a + i) (range_with_len a n)
    (subst (λ k. Contains (range_with_len a n) k) (get_or-range_with_len a n i 0 lt) (Contains-get_or (range_with_len a n) i 0 (omega (arith, long))))

flat_map-IsIn : {A B : Type 0} (f : A → List B) (x : A) (y : B) (xs : List A) → IsIn x xs → IsIn y (f x) → IsIn y (flat_map f xs)
flat_map-IsIn f x y xs (First a rest) within = IsIn-append_left y (f a) (flat_map f rest) within
flat_map-IsIn f x y xs (Later a b rest there) within = IsIn-append_right y (f b) (flat_map f rest) (flat_map-IsIn f a y rest there within)

-- a store at a replica of the shard of this index, where the first shard has this number
record StoreAmong (number : ℕ) (shards : List Shard) (a : Actor) : Type 0 where
  index : ℕ
  node : ℕ
  within : index < length shards
  among : IsIn node (get_or shards index no_shard).replicas
  is : a ≡ actor_of node (number + index)

store_among : (number : ℕ) (shards : List Shard) (a : Actor) → IsIn a (stores_from number shards) → StoreAmong number shards a
store_among number [] a h = absurd (none_is_in a h)
store_among number (s ∷ shards) a h =
    ⊎_elim
    (λ here.
    let k = IsIn-map (λ node. actor_of node number) a s.replicas here in
    let first : number ≡ number + 0 = omega arith in
    record { index = 0; node = k.source; within = omega arith; among = k.there; is = k.is ∙ ap (actor_of k.source) first })
    (λ rest.
    let k = store_among (number + 1) shards a rest in
    let next : number + 1 + k.index ≡ number + suc k.index = omega arith in
    record { index = suc k.index; node = k.node; within = omega (arith, k.within); among = k.among; is = k.is ∙ ap (actor_of k.node) next })
    (IsIn-append_cases a (map (λ node. actor_of node number) s.replicas) (stores_from (number + 1) shards) h)

abbrev at_node : Layout → ℕ → List Actor
at_node layout node = actor_of node 0 ∷ stores_at layout node

store_in_turn : (layout : Layout) → IsLayout layout → (a : Actor) → StoreAmong 1 layout.shards a → IsIn a (actors_rising layout)
store_in_turn layout is a k =
    let within = k.within in
    let back : 1 + k.index - 1 ≡ k.index = omega arith in
    let same : shard_at layout (1 + k.index) ≡ get_or layout.shards k.index no_shard = ap (λ j. get_or layout.shards j no_shard) back in
    let among : IsIn k.node (shard_at layout (1 + k.index)).replicas = subst (λ s. IsIn k.node s.replicas) (sym same) k.among in
    let kept : is_among (shard_at layout (1 + k.index)).replicas k.node ≡ true = any_from (λ m. eqb m k.node) k.node (shard_at layout (1 + k.index)).replicas among (eq-eqb k.node k.node refl) in
    let rules = shard_of_layout layout (1 + k.index) is (omega arith, omega (arith, within)) in
    let node = (IsIn-filter (is_among (shard_at layout (1 + k.index)).replicas) k.node layout.nodes (subst (λ l. IsIn k.node l) rules.replicas among)).0 in
    let numbered = filter-IsIn (λ n. is_among (shard_at layout n).replicas k.node) (1 + k.index) (range_with_len 1 (length layout.shards)) (range_in 1 (length layout.shards) k.index within) kept in
    let store = map-IsIn (actor_of k.node) (1 + k.index) (filter (λ n. is_among (shard_at layout n).replicas k.node) (range_with_len 1 (length layout.shards))) numbered in
    let there : IsIn a (at_node layout k.node) = subst (λ b. IsIn b (at_node layout k.node)) (sym k.is) (Later (actor_of k.node (1 + k.index)) (actor_of k.node 0) (stores_at layout k.node) store) in
    flat_map-IsIn (at_node layout) k.node a layout.nodes node there

pub in_turn : (layout : Layout) → IsLayout layout → (a : Actor) → Contains (actors layout) a → IsIn a (actors_rising layout)
in_turn layout is a there =
    ⊎_elim
    (λ node.
    let k = IsIn-map (λ n. actor_of n 0) a layout.nodes node in
    flat_map-IsIn (at_node layout) k.source a layout.nodes k.there
    (subst (λ b. IsIn b (at_node layout k.source)) (sym k.is) (First (actor_of k.source 0) (stores_at layout k.source))))
    (λ store. store_in_turn layout is a (store_among 1 layout.shards a store))
    (IsIn-append_cases a (map (λ n. actor_of n 0) layout.nodes) (stores_from 1 layout.shards) (Contains-IsIn a (actors layout) there))
