-- After a run within the limits there is room for as many items again: each actor that is opened adds its restart.
use Rattle.std.proofs.Common.{◌≡◌, ℕ, suc, ◌+◌, ◌*◌, ◌≤◌, Bool, true, false, cond, List, [], ◌∷◌, length, length-append, filter, ap, arith}
use Rattle.std.specs.List.{flat_map, range_with_len}
use Rattle.std.proofs.lemmas.List.{length-map}
use Rattle.std.proofs.lemmas.List.FromFn.{length-range_with_len}
use Rattle.acc_stamp.specs.declared.actors.Actor.{Actor}
use Rattle.acc_stamp.specs.Actor.{actor_of}
use Rattle.acc_topology.specs.Layout.{shard_at, IsLayout, Layout}
use Rattle.acc_topology.specs.Sets.{is_among}
use Rattle.acc_message.specs.declared.item.Item.{Item}
use Rattle.acc_message.specs.Run.{Cluster}
use Rattle.acc_schedule_runs.specs.Limits.{IsWithin}
use Rattle.acc_schedule_runs.specs.Moves.{reopened}
use Rattle.acc_schedule_runs.specs.Situations.{opened, whole, Situation}
use Rattle.acc_schedule.specs.Content.{Content}
use Rattle.acc_left.specs.Leaves.{actors_rising, stores_at}
use Rattle.acc_left_laws.specs.Left.{reopened_all, reopened_run, HasRoomAfter}

fewer : {X : Type 0} (p : X → Bool) (xs : List X) → length (filter p xs) ≤ length xs
fewer p [] = omega arith
fewer p (x ∷ xs) = by (p x) (fewer p xs)
  where
    by : (b : Bool) → length (filter p xs) ≤ length xs → length (cond b (x ∷ filter p xs) (filter p xs)) ≤ suc (length xs)
    by true less = omega (arith, less)
    by false less = omega (arith, less)

joined_long : {A B : Type 0} (f : A → List B) (most : ℕ) (xs : List A) → ((x : A) → length (f x) ≤ most) → length (flat_map f xs) ≤ length xs * most
joined_long f most [] each = omega arith
joined_long f most (x ∷ xs) each =
    let here = each x in
    let rest = joined_long f most xs each in
    let long : length (flat_map f (x ∷ xs)) ≡ length (f x) + length (flat_map f xs) = length-append (f x) (flat_map f xs) in
    omega (arith, here, rest, long)

module _ (layout : Layout) (is : IsLayout layout) where
  few_stores : (node : ℕ) → length (actor_of node 0 ∷ stores_at layout node) ≤ 16
  few_stores node =
      let held : List ℕ = filter (λ (shard : ℕ). is_among (shard_at layout shard).replicas node) (range_with_len 1 (length layout.shards)) in
      let named : length (stores_at layout node) ≡ length held = length-map held (actor_of node) in
      let part : length held ≤ length (range_with_len 1 (length layout.shards)) = fewer (λ (shard : ℕ). is_among (shard_at layout shard).replicas node) (range_with_len 1 (length layout.shards)) in
      let all : length (range_with_len 1 (length layout.shards)) ≡ length layout.shards = length-range_with_len 1 (length layout.shards) in
      let few = is.few_shards in
      omega (arith, named, part, all, few)

  few_nodes : length layout.nodes ≤ 15
  few_nodes =
      let part : length (filter (is_among layout.nodes) (range_with_len 1 15)) ≤ 15 = fewer (is_among layout.nodes) (range_with_len 1 15) in
      let same : length layout.nodes ≡ length (filter (is_among layout.nodes) (range_with_len 1 15)) = ap length is.nodes in
      omega (arith, part, same)

  few_actors : length (actors_rising layout) ≤ 240
  few_actors =
      let long : length (actors_rising layout) ≤ length layout.nodes * 16 = joined_long (λ (node : ℕ). actor_of node 0 ∷ stores_at layout node) 16 layout.nodes few_stores in
      let few = few_nodes in
      omega (arith, long, few)

-- where no step was kept, each actor adds one item
opened_long : (cluster : Cluster) (others : List Actor) (s : Situation) → length (whole (reopened_all cluster (λ a. false) s others)) ≡ length others + length (whole s)
opened_long cluster [] s = omega arith
opened_long cluster (a ∷ others) s =
    let rest : length (whole (reopened_all cluster (λ b. false) (reopened cluster s a []) others)) ≡ length others + suc (length (whole s)) =
    opened_long cluster others (reopened cluster s a []) in
    omega (arith, rest)

pub room_after : (plan : Content) (items : List Item) → IsLayout plan.topology → IsWithin items → HasRoomAfter (reopened_run plan (opened items) (λ a. false))
room_after plan items is within =
    let long : length (reopened_run plan (opened items) (λ a. false)) ≡ length (actors_rising plan.topology) + length items =
    opened_long (record { layout = plan.topology; starts = plan.starts; homes = plan.homes; bodies = plan.bodies }) (actors_rising plan.topology) (opened items) in
    let few = few_actors plan.topology is in
    let most : length items ≤ 1000000 = within.few in
    omega (arith, long, few, most)
