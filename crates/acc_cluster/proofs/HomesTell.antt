-- What the homes of transactions tell of a run in which the nodes did their parts.
use Rattle.std.proofs.Common.{◌≡◌, ℕ, zero, suc, ◌+◌, ◌<◌, ◌≤◌, ◌==◌, ◌||◌, ◌⊎◌, inl, inr, Bool, true, false, List, [], ◌∷◌, ◌++◌, length, map, drop, drop-cons, Option, None, Some, is_some, refl, sym, ◌∙◌, ap, subst, arith}
use Rattle.std.proofs.lemmas.Bool.{true≢false, cases_Bool}
use Rattle.std.proofs.lemmas.List.{drop_all, get_or-map, length-map}
use Rattle.std.proofs.lemmas.Option.{slice_get_past}
use Rattle.std.specs.List.{AllByRecursion, slice_get, slice_index_or}
use Rattle.acc_stamp.specs.declared.actors.Actor.{Actor}
use Rattle.acc_stamp.specs.declared.stamps.TxnId.{TxnId}
use Rattle.acc_stamp.specs.Actor.{actor_of}
use Rattle.acc_topology.specs.Layout.{Layout}
use Rattle.acc_topology.specs.Sets.{is_among}
use Rattle.acc_ports.specs.declared.disk.Disk.{Ghosts}
use Rattle.acc_message.specs.declared.item.Item.{Item}
use Rattle.acc_message.specs.Items.{is_begun, id_of_txn}
use Rattle.acc_message.specs.NodeRules.{Act, begun_id, node_replay}
use Rattle.acc_message.specs.Run.{Cluster, clock_start, deeds_of}
use Rattle.acc_actor_laws.proofs.Standing.{not_none}
use Rattle.acc_actor_laws.proofs.OpeningFacts.{some_is}
use Rattle.acc_safety.specs.RunLaws.{acts_done}
use Rattle.acc_safety.specs.Valid.{IsStanding}
use Rattle.acc_safety.proofs.BegunFacts.{begun_has}
use Rattle.acc_safety.proofs.DrawFacts.{node_is, is_node-node}
use Rattle.acc_durable_node.specs.declared.name.NodeName.{NodeName}
use Rattle.acc_durable_node.specs.declared.node.DurableNode.{DurableNode}
use Rattle.acc_durable_node.specs.Names.{id_begun}
use Rattle.acc_durable_node.specs.Node as node
use Rattle.acc_schedule.specs.Content.{Content}
use Rattle.acc_pasts.specs.Stopped.{IsSound}
use Rattle.acc_pasts.proofs.Replayed.{node_replayed}
use Rattle.acc_pasts.proofs.SlowingFacts.{begun_at_home, has_begun}
use Rattle.acc_pasts.proofs.Sound.{sound_standing}
use Rattle.acc_schedule_runs.specs.Situations.{opened}
use Rattle.acc_schedule_runs.specs.Schedules.{cluster_of}
use Rattle.acc_history.specs.Begun.{begun_as, known_as}
use Rattle.acc_actors.specs.Opened.{HasDone}
use Rattle.acc_cluster.specs.Opened.{IsNodeOf, TellsOf}
use Rattle.acc_cluster.proofs.Homes.{each_read}

-- ---- one id more

pub pushed : {X : Type 0} (P : ℕ → X → Type 0) (xs : List X) (x : X) → ((k : ℕ) (y : X) → slice_get xs k ≡ Some y → P k y) → P (length xs) x
    → (k : ℕ) (y : X) → slice_get (xs ++ x ∷ []) k ≡ Some y → P k y
pushed P [] x before new zero y is = subst (P 0) (some_is x y is) new
pushed P [] x before new (suc k) y is = absurd (not_none y is)
pushed P (first ∷ xs) x before new zero y is = before 0 y is
pushed P (first ∷ xs) x before new (suc k) y is = pushed (λ n. P (suc n)) xs x (λ n. before (suc n)) new k y is

-- ---- a number among others

-- the one at this place is another
pub other_here : (numbers : List ℕ) (place n d : ℕ) → place < length numbers → (slice_index_or numbers place d == n) ≡ false
    → is_among numbers n ≡ is_among (drop place numbers) n → is_among numbers n ≡ is_among (drop (place + 1) numbers) n
other_here numbers place n d low other before =
    before ∙ ap (λ (l : List ℕ). is_among l n) (drop-cons numbers place d low) ∙ ap (λ b. b || is_among (drop (suc place) numbers) n) other
    ∙ (let next : suc place ≡ place + 1 = omega arith in ap (λ (k : ℕ). is_among (drop k numbers) n) next)

pub none_left : (numbers : List ℕ) (place n : ℕ) → length numbers ≤ place → is_among numbers n ≡ true → is_among numbers n ≡ is_among (drop place numbers) n → ⊥
none_left numbers place n high there before = true≢false (sym there ∙ before ∙ ap (λ (l : List ℕ). is_among l n) (drop_all place numbers high))

-- ---- a node and its number

pub number_read : {D : Type 0} (nodes : List (DurableNode D)) (numbers : List ℕ) (place : ℕ) (n : DurableNode D) → map (λ (m : DurableNode D). m.name.number) nodes ≡ numbers
    → place < length nodes → n ≡ slice_index_or nodes place n → n.name.number ≡ slice_index_or numbers place 0
number_read {D} nodes numbers place n are low is =
    ap (λ (m : DurableNode D). m.name.number) is ∙ sym (get_or-map (λ (m : DurableNode D). m.name.number) nodes place n 0 low)
    ∙ ap (λ (l : List ℕ). slice_index_or l place 0) are

pub node_within : {D : Type 0} (nodes : List (DurableNode D)) (numbers : List ℕ) (place : ℕ) → map (λ (m : DurableNode D). m.name.number) nodes ≡ numbers
    → place < length numbers → place < length nodes
node_within {D} nodes numbers place are low =
    let many = sym (length-map nodes (λ (m : DurableNode D). m.name.number)) ∙ ap (λ (l : List ℕ). length l) are in
    subst (λ k. place < k) (sym many) low

-- ---- the home of a transaction

known_is : (id : Option TxnId) → known_as (Some id) ≡ begun_as (is_some id) id
known_is None = refl
known_is (Some x) = refl

known_so : (id drawn : Option TxnId) (begun : Bool) → id ≡ drawn → is_some id ≡ begun → known_as (Some id) ≡ begun_as begun drawn
known_so id drawn begun is so = known_is id ∙ ap (λ b. begun_as b id) so ∙ ap (begun_as begun) is

module _ {D : Type 0} (port : Ghosts D) (plan : Content) where
  -- tells what the run before drew for it
  home_tells : (n : DurableNode D) (txn : ℕ) (id : Option TxnId) → IsNodeOf port plan n → slice_get plan.homes txn ≡ Some n.name.number
      → ((layout : Layout) → node.OfActs layout n (λ acts. id ≡ id_begun layout n.name txn acts))
      → (earlier : List Item) → IsSound (cluster_of plan) (opened earlier) → HasDone plan earlier n
      → known_as (Some id) ≡ begun_as (is_begun earlier txn) (id_of_txn earlier txn)
  home_tells n txn id of_plan home told earlier sound did =
      known_so id (id_of_txn earlier txn) (is_begun earlier txn)
      (at_home ∙ begun_at_home cluster txn number home earlier standing.stands)
      (ap is_some at_home ∙ has_begun cluster txn number home earlier standing.stands)
    where
      cluster : Cluster
      cluster = cluster_of plan

      number : ℕ
      number = n.name.number

      a : Actor
      a = actor_of number 0

      standing : IsStanding cluster earlier
      standing = sound_standing cluster (opened earlier) sound

      acts : List Act
      acts = acts_done (deeds_of cluster a earlier)

      at_home : id ≡ begun_id number (clock_start plan.starts number) txn (deeds_of cluster a earlier)
      at_home =
          told plan.topology acts did.stands
          ∙ ap (λ (name : NodeName). id_begun plan.topology name txn acts) of_plan.named
          ∙ ap (λ m. begun_id number (clock_start plan.starts number) txn (node_replay plan.topology m (clock_start plan.starts m) acts)) (sym (node_is number))
          ∙ ap (begun_id number (clock_start plan.starts number) txn) (sym (node_replayed cluster earlier a standing (is_node-node number)))

  -- the node at this place is the home
  pub tells_at : (nodes : List (DurableNode D)) (place : ℕ) (n : DurableNode D) (txn : ℕ) (id : Option TxnId) → place < length nodes → n ≡ slice_index_or nodes place n
      → slice_get plan.homes txn ≡ Some n.name.number → AllByRecursion (IsNodeOf port plan) nodes
      → ((layout : Layout) → node.OfActs layout n (λ acts. id ≡ id_begun layout n.name txn acts))
      → TellsOf plan nodes txn id
  tells_at nodes place n txn id low is home of_plan told = λ earlier sound did.
      home_tells n txn id (subst (IsNodeOf port plan) (sym is) (each_read (IsNodeOf port plan) nodes place n of_plan low)) home told earlier sound
      (subst (HasDone plan earlier) (sym is) (each_read (HasDone plan earlier) nodes place n did low))

-- ---- all of them

-- what is no transaction of the plan isn't begun
outside : (plan : Content) (earlier : List Item) → IsSound (cluster_of plan) (opened earlier) → (txn : ℕ) → slice_get plan.homes txn ≡ None
    → known_as None ≡ begun_as (is_begun earlier txn) (id_of_txn earlier txn)
outside plan earlier sound txn none = by (cases_Bool (is_begun earlier txn))
  where
    by : (is_begun earlier txn ≡ true) ⊎ (is_begun earlier txn ≡ false) → known_as None ≡ begun_as (is_begun earlier txn) (id_of_txn earlier txn)
    by (inl begun) =
        let had = begun_has (cluster_of plan) earlier txn (sound_standing (cluster_of plan) (opened earlier) sound).stands begun in
        absurd (not_none had.home (sym none ∙ had.home_is))
    by (inr not_begun) = sym (ap (λ b. begun_as b (id_of_txn earlier txn)) not_begun)

pub all_told : {D : Type 0} (plan : Content) (nodes : List (DurableNode D)) (ids : List (Option TxnId)) → length plan.homes ≤ length ids
    → ((k : ℕ) (id : Option TxnId) → slice_get ids k ≡ Some id → TellsOf plan nodes k id)
    → (earlier : List Item) → IsSound (cluster_of plan) (opened earlier) → AllByRecursion (HasDone plan earlier) nodes
    → (txn : ℕ) → known_as (slice_get ids txn) ≡ begun_as (is_begun earlier txn) (id_of_txn earlier txn)
all_told plan nodes ids many told earlier sound did txn = by (slice_get ids txn) refl
  where
    past : (xs : List (Option TxnId)) (k : ℕ) → slice_get xs k ≡ None → length xs ≤ k
    past [] k is = omega arith
    past (x ∷ xs) zero is = absurd (not_none x (sym is))
    past (x ∷ xs) (suc k) is = let rest = past xs k is in omega (arith, rest)

    by : (o : Option (Option TxnId)) → slice_get ids txn ≡ o → known_as o ≡ begun_as (is_begun earlier txn) (id_of_txn earlier txn)
    by None is =
        let high = past ids txn is in
        outside plan earlier sound txn (slice_get_past plan.homes txn (omega (arith, high, many)))
    by (Some id) is = told txn id is earlier sound did
