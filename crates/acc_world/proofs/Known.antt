-- Who takes an event is a node of the cluster, or a store.
use Rattle.std.proofs.Common.{◌≡◌, ◌==◌, ◌+◌, ◌*◌, ◌^◌, ◌%◌, ◌≤◌, ℕ, zero, suc, Bool, true, false, IsTrue, List, [], ◌∷◌, length, map, Some, Contains, refl, sym, ◌∙◌, ap, subst, arith, ⊎_elim}
use Rattle.std.proofs.lemmas.Bool.{true≢false, eqb-true, or_cases}
use Rattle.std.proofs.lemmas.Bool.Decides.{nat_tests}
use Rattle.std.specs.List.{range_with_len}
use Rattle.acc_stamp.specs.declared.actors.Actor.{Actor}
use Rattle.acc_stamp.specs.Actor.{actor_of, node_of, shard_of}
use Rattle.acc_topology.specs.Layout.{Layout, Shard, node_numbers}
use Rattle.acc_topology.proofs.Counts.{among_part}
use Rattle.acc_topology.specs.Sets.{is_among}
use Rattle.acc_message.specs.declared.message.Message.{Message}
use Rattle.acc_message.specs.declared.item.Item.{Item}
use Rattle.acc_message.specs.Fields.{to_of}
use Rattle.acc_message.specs.Items.{message_at}
use Rattle.acc_message.specs.Run.{Cluster, clock_start, is_node, IsHomeOf}
use Rattle.acc_safety.specs.Places.{IsIn}
use Rattle.acc_safety.specs.Valid.{IsValidCluster, IsStanding}
use Rattle.acc_safety.proofs.PlaceOrder.{Contains-IsIn, IsIn-append_cases, IsIn-map, any_from, none_is_in}
use Rattle.acc_safety.proofs.DrawFacts.{node_is}
use Rattle.acc_schedule.specs.Actors.{stores_from, actors}
use Rattle.acc_run_laws.proofs.ReceiverFacts.{goes_to_actor}
use Rattle.acc_run_laws.proofs.Addresses.{node_low}
use Rattle.acc_run_laws.proofs.Sendable.{node_meets}
use Rattle.acc_node.specs.declared.node.Node.{Node}
use Rattle.acc_node.specs.Stands.{StandsFor as IsNodeStanding}
use Rattle.acc_world.specs.declared.setup.Setup.{Setup}
use Rattle.acc_world.specs.Held.{cluster_of, IsActorOf, NodeStands}
use Rattle.acc_world.proofs.Homes.{each_got}

pub of_node : (cluster : Cluster) (a : Actor) (node : ℕ) → IsValidCluster cluster → is_among cluster.layout.nodes node ≡ true → a ≡ actor_of node 0 → IsActorOf cluster a
of_node cluster a node valid among is =
    record { valid = valid; node = λ kind. subst (λ n. is_among cluster.layout.nodes n ≡ true) (sym (ap node_of is ∙ node_is node)) among }

pub of_home : (cluster : Cluster) (txn : ℕ) (a : Actor) → IsValidCluster cluster → IsHomeOf cluster txn a → IsActorOf cluster a
of_home cluster txn a valid home =
    of_node cluster a home.0 valid (each_got (λ node. IsTrue (is_among cluster.layout.nodes node)) cluster.homes txn home.0 valid.homes home.1) home.2

-- a store of a shard is no node
no_node : (node shard : ℕ) → 1 ≤ shard → shard ≤ 15 → is_node (actor_of node shard) ≡ true → ⊥
no_node node shard low high is =
    let zero_is : (node * 64 + shard) % 64 ≡ 0 = eqb-true ((node * 64 + shard) % 64) 0 is in
    omega (arith, low, high, zero_is)

no_store : (a : Actor) (first : ℕ) (shards : List Shard) → 1 ≤ first → first + length shards ≤ 16 → IsIn a (stores_from first shards) → is_node a ≡ true → ⊥
no_store a first [] low high there node = absurd (none_is_in a there)
no_store a first (s ∷ shards) low high there node =
    ⊎_elim
    (λ here.
    let from = IsIn-map (λ n. actor_of n first) a s.replicas here in
    no_node from.source first low (omega (arith, high)) (ap is_node (sym from.is) ∙ node))
    (λ later. no_store a (first + 1) shards (omega (arith, low)) (omega (arith, high)) later node)
    (IsIn-append_cases a (map (λ n. actor_of n first) s.replicas) (stores_from (first + 1) shards) there)

pub of_member : (cluster : Cluster) (a : Actor) → IsValidCluster cluster → Contains (actors cluster.layout) a → IsActorOf cluster a
of_member cluster a valid member =
    record {
      valid = valid;
      node = λ kind.
          ⊎_elim
          (λ node.
          let from = IsIn-map (λ n. actor_of n 0) a cluster.layout.nodes node in
          subst (λ n. is_among cluster.layout.nodes n ≡ true) (sym (ap node_of from.is ∙ node_is from.source))
          (any_from (λ n. n == from.source) from.source cluster.layout.nodes from.there (same_number from.source)))
          (λ store. absurd (no_store a 1 cluster.layout.shards (omega arith) (omega (arith, few)) store kind))
          (IsIn-append_cases a (map (λ n. actor_of n 0) cluster.layout.nodes) (stores_from 1 cluster.layout.shards) (Contains-IsIn a (actors cluster.layout) member));
    }
  where
    few : length cluster.layout.shards ≤ 15
    few = valid.layout.few_shards

    same_number : (n : ℕ) → (n == n) ≡ true
    same_number n = grind (arith, nat_tests)

pub of_message : (cluster : Cluster) (items : List Item) (number : ℕ) (m : Message) → IsStanding cluster items → message_at items number ≡ Some m → IsActorOf cluster (to_of m)
of_message cluster items number m standing is = of_member cluster (to_of m) standing.valid (goes_to_actor cluster items number m standing is)

-- ---- numbers of nodes

range_from : (n first count : ℕ) → is_among (range_with_len first count) n ≡ true → first ≤ n
range_from n first zero h = absurd (true≢false (sym h))
range_from n first (suc count) h =
    ⊎_elim (λ same. at n first (eqb-true first n same)) (λ later. below n first (range_from n (first + 1) count later))
    (or_cases (first == n) (is_among (range_with_len (first + 1) count) n) h)
  where
    at : (n first : ℕ) → first ≡ n → first ≤ n
    at n first e = omega (arith, e)

    below : (n first : ℕ) → first + 1 ≤ n → first ≤ n
    below n first le = omega (arith, le)

module _ (setup : Setup) (a : Actor) (known : IsActorOf (cluster_of setup) a) (kind : is_node a ≡ true) where
  pub number_from : (number : ℕ) → number ≡ node_of a → 1 ≤ number
  number_from number is =
      subst (λ n. 1 ≤ n) (sym is)
      (range_from (node_of a) 1 15 (among_part setup.topology.nodes node_numbers known.valid.layout.nodes (node_of a) (known.node kind)))

  pub number_to : (number : ℕ) → number ≡ node_of a → number ≤ 15
  number_to number is = subst (λ n. n ≤ 15) (sym is) (node_low setup.topology (node_of a) known.valid.layout (known.node kind))

  start_low : clock_start setup.starts (node_of a) ≤ 10 ^ 12
  start_low = (node_meets (cluster_of setup) [] a (record { valid = known.valid; stands = tt }) (omega arith) kind).start

  pub start_to : (number start : ℕ) → number ≡ node_of a → start ≡ clock_start setup.starts number → start ≤ 10 ^ 12
  start_to number start is from = subst (λ n. n ≤ 10 ^ 12) (sym (from ∙ ap (clock_start setup.starts) is)) start_low

  pub fresh_node : (number start : ℕ) (n : Node) → number ≡ node_of a → start ≡ clock_start setup.starts number → ((layout : Layout) → IsNodeStanding layout number start n [])
      → NodeStands (cluster_of setup) a [] n
  fresh_node number start n is from stands =
      record {
        kind = kind;
        stands =
            subst (λ k. IsNodeStanding setup.topology k (clock_start setup.starts k) n []) is
            (subst (λ k. IsNodeStanding setup.topology number k n []) from (stands setup.topology));
      }

pub kind_node : (a : Actor) (shard : ℕ) → shard ≡ shard_of a → shard ≡ 0 → is_node a ≡ true
kind_node a shard is zero_is = ap (λ n. n == 0) (sym is ∙ zero_is)

pub kind_store : (a : Actor) (shard : ℕ) → shard ≡ shard_of a → (shard ≡ 0 → ⊥) → is_node a ≡ false
kind_store a shard is some_is = by (is_node a) refl
  where
    by : (b : Bool) → is_node a ≡ b → b ≡ false
    by true e = absurd (some_is (is ∙ eqb-true (shard_of a) 0 e))
    by false e = refl
