-- The actors of a layout have the numbers that a line may have.
use Rattle.std.proofs.Common.{◌≡◌, ℕ, zero, suc, ◌+◌, ◌<◌, ◌≤◌, ◌==◌, true, List, [], ◌∷◌, length, map, refl, sym, subst, ⊎_elim, arith}
use Rattle.std.specs.List.{range_with_len, AllByRecursion}
use Rattle.std.proofs.lemmas.Bool.{true≢false, eq-eqb, eqb-true, or_cases}
use Rattle.acc_stamp.specs.declared.actors.Actor.{Actor}
use Rattle.acc_stamp.specs.Actor.{actor_of}
use Rattle.acc_topology.specs.Layout.{Layout, Shard, IsShard, IsLayout, node_numbers}
use Rattle.acc_topology.specs.Sets.{is_among}
use Rattle.acc_topology.proofs.Counts.{among_part}
use Rattle.acc_schedule.specs.Actors.{actors, stores_from}
use Rattle.acc_report_line.specs.Forms.{IsActor}
use Rattle.acc_safety.specs.Places.{IsIn}
use Rattle.acc_safety.proofs.PlaceOrder.{any_from, none_is_in, IsIn-append_cases, IsIn-map}

range_bounds : (n first count : ℕ) → is_among (range_with_len first count) n ≡ true → (first ≤ n) × (n < first + count)
range_bounds n first zero h = absurd (true≢false (sym h))
range_bounds n first (suc count) h =
    ⊎_elim (λ same. here first n count (eqb-true first n same)) (λ later. further first n count (range_bounds n (first + 1) count later))
    (or_cases (first == n) (is_among (range_with_len (first + 1) count) n) h)
  where
    here : (first n count : ℕ) → first ≡ n → (first ≤ n) × (n < first + suc count)
    here first n count e = (omega (arith, e), omega (arith, e))

    further : (first n count : ℕ) → (first + 1 ≤ n) × (n < first + 1 + count) → (first ≤ n) × (n < first + suc count)
    further first n count h = (omega (arith, h.0), omega (arith, h.1))

among : (n : ℕ) (ns : List ℕ) → IsIn n ns → is_among ns n ≡ true
among n ns there = any_from (λ m. m == n) n ns there (eq-eqb n n refl)

made : (node shard : ℕ) → 1 ≤ node → node ≤ 15 → shard ≤ 15 → IsActor (actor_of node shard)
made node shard least most few = (omega arith, omega arith, omega arith)

module _ (layout : Layout) (h : IsLayout layout) where
  node_numbered : (node : ℕ) → IsIn node layout.nodes → (1 ≤ node) × (node < 16)
  node_numbered node there = range_bounds node 1 15 (among_part layout.nodes node_numbers h.nodes node (among node layout.nodes there))

  node_formed : (node shard : ℕ) → (1 ≤ node) × (node < 16) → shard ≤ 15 → IsActor (actor_of node shard)
  node_formed node shard within few = made node shard within.0 (omega (arith, within.1)) few

  stores_formed : (shard : ℕ) (shards : List Shard) (a : Actor) → shard + length shards ≤ 16 → AllByRecursion (IsShard layout.nodes) shards
      → IsIn a (stores_from shard shards) → IsActor a
  stores_formed shard [] a few each there = absurd (none_is_in a there)
  stores_formed shard (s ∷ shards) a few each there =
      ⊎_elim
      (λ here.
      let from = IsIn-map (λ node. actor_of node shard) a s.replicas here in
      subst IsActor (sym from.is)
      (node_formed from.source shard
      (range_bounds from.source 1 15
      (among_part layout.nodes node_numbers h.nodes from.source
      (among_part s.replicas layout.nodes each.0.replicas from.source (among from.source s.replicas from.there))))
      (omega (arith, few))))
      (λ later. stores_formed (shard + 1) shards a (omega (arith, few)) each.1 later)
      (IsIn-append_cases a (map (λ node. actor_of node shard) s.replicas) (stores_from (shard + 1) shards) there)

  pub actor_formed : (a : Actor) → IsIn a (actors layout) → IsActor a
  actor_formed a there =
      ⊎_elim
      (λ node.
      let from = IsIn-map (λ node. actor_of node 0) a layout.nodes node in
      subst IsActor (sym from.is) (node_formed from.source 0 (node_numbered from.source from.there) (omega arith)))
      (λ store. stores_formed 1 layout.shards a (omega (arith, h.few_shards)) h.shards store)
      (IsIn-append_cases a (map (λ node. actor_of node 0) layout.nodes) (stores_from 1 layout.shards) there)
