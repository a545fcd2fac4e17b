-- The actors of a plan at the beginning, and a run that has no item.
use Rattle.std.proofs.Common.{◌≡◌, ℕ, ◌+◌, ◌*◌, ◌%◌, ◌≤◌, Bool, true, false, List, [], ◌∷◌, ◌++◌, map, Result, Ok, Err, Vec, Global, Contains, refl, sym, ◌∙◌, ap, subst, arith}
use Rattle.std.specs.List.{AllByRecursion}
use Rattle.std.specs.Prelude.{IfOk}
use Rattle.std.proofs.lemmas.Bool.{eqb-true}
use Rattle.std.proofs.lemmas.List.{map-append}
use Rattle.acc_ports.specs.Moments.{IsFresh}
use Rattle.acc_ports.specs.Disk.{Only}
use Rattle.acc_stamp.specs.declared.actors.Actor.{Actor}
use Rattle.acc_stamp.specs.Actor.{actor_of}
use Rattle.acc_stamp.proofs.Rising.{each_append, each_weaker}
use Rattle.acc_topology.specs.Layout.{Layout}
use Rattle.acc_ports.specs.declared.disk.Disk.{Ghosts}
use Rattle.acc_journal.specs.Layout.{Reads}
use Rattle.acc_message.specs.declared.item.Item.{Item}
use Rattle.acc_message.specs.Run.{is_node}
use Rattle.acc_payloads.specs.Items.{without_marks}
use Rattle.acc_safety.specs.Valid.{IsValidCluster}
use Rattle.acc_run_laws.specs.Sends.{HasFewBodies}
use Rattle.acc_safety.specs.Places.{IsIn}
use Rattle.acc_safety.proofs.PlaceOrder.{each_from, map-IsIn, IsIn-append_right, IsIn-Contains}
use Rattle.acc_schedule.specs.Actors.{actors, stores_from}
use Rattle.acc_schedule.specs.Content.{Content}
use Rattle.acc_durable_node.specs.declared.node.DurableNode.{DurableNode}
use Rattle.acc_durable_store.specs.declared.store.DurableStore.{DurableStore}
use Rattle.acc_durable_node.specs.Node as node
use Rattle.acc_durable_store.specs.Store as store
use Rattle.acc_durable_store.proofs.Stores.{fresh_reads}
use Rattle.acc_pasts.proofs.Sound.{sound_opened}
use Rattle.acc_schedule_runs.specs.Situations.{opened}
use Rattle.acc_schedule_runs.specs.Schedules.{cluster_of}
use Rattle.acc_schedule_runs.specs.StrictMoves.{opened_strictly}
use Rattle.acc_cluster.specs.declared.cluster.Cluster.{Cluster}
use Rattle.acc_actors.specs.Slots.{node_name}
use Rattle.acc_actors.specs.Opened.{HasDone, HasTaken, IsUnarmed}
use Rattle.acc_cluster.specs.Opened.{IsStoreNumber, AreActorsOf, IsEarlier, AreUnarmed}
use Rattle.acc_cluster.specs.Stands.{StandsFor, StandsStrictly}
use Rattle.acc_run.specs.Fresh.{IsFreshNode, IsFreshStore, AreFreshNodes, AreFreshStores}

abbrev pub items_of : {T : Type 0} → Vec T Global → List T
items_of v = v.items

abbrev pub number_in : {D : Type 0} → DurableNode D → ℕ
number_in n = n.name.number

abbrev pub IsNodeUnarmed : {D : Type 0} → Ghosts D → DurableNode D → Type 0
IsNodeUnarmed port n = IsUnarmed port n.journal.disk

abbrev pub IsStoreUnarmed : {D : Type 0} → Ghosts D → DurableStore D → Type 0
IsStoreUnarmed port t = IsUnarmed port t.journal.disk

-- ---- one after another

-- things with these names, each with a property
pub record AreFresh {T N : Type 0} (name : T → N) (P : T → Type 0) (names : List N) (ts : List T) : Type 0 where
  pub names_are : map name ts ≡ names
  pub each : AllByRecursion P ts

module _ {T N : Type 0} (name : T → N) (P : T → Type 0) where
  pub pushed : (names more : List N) (n : N) (ts put all : List T) (t : T) → AreFresh name P names ts → more ≡ names ++ n ∷ [] → all ≡ put → put ≡ ts ++ t ∷ [] → name t ≡ n → P t → AreFresh name P more all
  pushed names more n ts put all t before grown now how is fresh = record {
    names_are = ap (map name) (now ∙ how) ∙ map-append name ts (t ∷ []) ∙ (λ i. before.names_are i ++ is i ∷ []) ∙ sym grown;
    each = subst (AllByRecursion P) (sym (now ∙ how)) (each_append P ts (t ∷ []) before.each (fresh, tt));
  }

  pub renamed : (names other : List N) (ts all : List T) → AreFresh name P names ts → other ≡ names → all ≡ ts → AreFresh name P other all
  renamed names other ts all before same kept = record {
    names_are = ap (map name) kept ∙ before.names_are ∙ sym same;
    each = subst (AllByRecursion P) (sym kept) before.each;
  }

pub each_pushed : {T : Type 0} (P : T → Type 0) (ts put all : List T) (t : T) → AllByRecursion P ts → all ≡ put → put ≡ ts ++ t ∷ [] → P t → AllByRecursion P all
each_pushed P ts put all t before now how fresh = subst (AllByRecursion P) (sym (now ∙ how)) (each_append P ts (t ∷ []) before (fresh, tt))

-- a value of a thing that changes once more, or not
pub kept_twice : {M V : Type 0} (value : M → V) (first between step now : M) → now ≡ step → value step ≡ value between → value between ≡ value first → value now ≡ value first
kept_twice value first between step now is once before = ap value is ∙ once ∙ before

pub kept_still : {M V : Type 0} (value : M → V) (first between now : M) → now ≡ between → value between ≡ value first → value now ≡ value first
kept_still value first between now is before = ap value is ∙ before

-- ---- numbers of stores

-- a store of a shard is no node
no_node : (node shard : ℕ) → 1 ≤ shard → shard ≤ 15 → is_node (actor_of node shard) ≡ true → ⊥
no_node node shard low high is =
    let zero_is : (node * 64 + shard) % 64 ≡ 0 = eqb-true ((node * 64 + shard) % 64) 0 is in
    omega (arith, low, high, zero_is)

not_so : (b : Bool) → (b ≡ true → ⊥) → b ≡ false
not_so true never = absurd (never refl)
not_so false never = refl

pub store_kind : (a : Actor) (node shard : ℕ) → a ≡ actor_of node shard → 1 ≤ shard → shard ≤ 15 → is_node a ≡ false
store_kind a node shard is low high = not_so (is_node a) (λ kind. no_node node shard low high (ap is_node (sym is) ∙ kind))

-- ---- a new disk

abbrev pub new_disk : List ℕ
new_disk = 1 ∷ 0 ∷ []

-- a new disk leaves but its two bytes
pub fresh_only : {D : Type 0} (port : Ghosts D) (disk : D) → IsFresh port disk → Only new_disk (port.is_image disk)
fresh_only port disk fresh image left = fresh.rest.only image left ∙ fresh.content

module _ {D : Type 0} (port : Ghosts D) (plan : Content) where
  pub node_fresh : (n : DurableNode D) (disk : D) → ((layout : Layout) → node.StandsFor layout n []) → n.name ≡ node_name plan n.name.number
      → n.journal.disk ≡ disk → n.journal.payloads ≡ [] → Only new_disk (port.is_image disk) → IsFreshNode port plan n
  node_fresh n disk stands named same payloads only = record {
    of_plan = record {
      sound = (stands plan.topology).sound;
      named = named;
      lasts = λ image there. subst (Reads image) (sym payloads) (fresh_reads port.is_image n.journal.disk disk same only image there);
    };
    did_nothing = record { stands = stands plan.topology; held = ap without_marks payloads };
  }

  pub store_fresh : (t : DurableStore D) (disk : D) → ((layout : Layout) → store.StandsFor layout t []) → t.version ≡ plan.version
      → t.journal.disk ≡ disk → t.journal.payloads ≡ [] → t.journal.group ≡ [] → Only new_disk (port.is_image disk) → is_node (store.actor_in t) ≡ false → IsFreshStore port plan t
  store_fresh t disk stands version same payloads group only kind = record {
    kind = kind;
    of_plan = record {
      sound = (stands plan.topology).sound;
      none_staged = group;
      version_is = version;
      lasts = λ image there. subst (Reads image) (sym payloads) (fresh_reads port.is_image t.journal.disk disk same only image there);
    };
    took_nothing = record { stands = stands plan.topology; held = ap without_marks payloads };
  }

  -- ---- all of them

  numbered_as : (nodes : List (DurableNode D)) → map (λ (n : DurableNode D). actor_of n.name.number 0) nodes ≡ map (λ (k : ℕ). actor_of k 0) (map (λ (n : DurableNode D). n.name.number) nodes)
  numbered_as [] = refl
  numbered_as (n ∷ nodes) = ap (λ rest. actor_of n.name.number 0 ∷ rest) (numbered_as nodes)

  both_of : (stores : List (DurableStore D)) → ((t : DurableStore D) → IsFreshStore port plan t → is_node (store.actor_in t) ≡ false)
      → AllByRecursion (IsFreshStore port plan) stores → AllByRecursion (λ (t : DurableStore D). Contains (actors plan.topology) (store.actor_in t)) stores
      → AllByRecursion (IsStoreNumber plan) stores
  both_of [] kind fresh known = tt
  both_of (t ∷ stores) kind fresh known = (record { member = known.0; kind = kind t fresh.0 }, both_of stores kind fresh.1 known.1)

  pub fresh_actors : (nodes : List (DurableNode D)) (stores : List (DurableStore D)) → AreFreshNodes port plan nodes → AreFreshStores port plan stores → AreActorsOf plan nodes stores
  fresh_actors nodes stores ns ts =
      let front = map (λ (k : ℕ). actor_of k 0) plan.topology.nodes in
      let all : map (λ (n : DurableNode D). actor_of n.name.number 0) nodes ++ map store.actor_in stores ≡ actors plan.topology =
      (λ i. (numbered_as nodes ∙ ap (map (λ (k : ℕ). actor_of k 0)) ns.numbers) i ++ ts.actors_are i) in
      record {
        nodes_are = ns.numbers;
        known = both_of stores (λ t f. f.kind) ts.each
            (each_from (λ (t : DurableStore D). Contains (actors plan.topology) (store.actor_in t)) stores
            (λ t there.
            IsIn-Contains (store.actor_in t) (actors plan.topology)
            (IsIn-append_right (store.actor_in t) front (stores_from 1 plan.topology.shards)
            (subst (IsIn (store.actor_in t)) ts.actors_are (map-IsIn store.actor_in t stores there)))));
        each = λ a there. subst (λ (l : List Actor). Contains l a) (sym all) there;
      }

  pub no_item : (nodes : List (DurableNode D)) (stores : List (DurableStore D)) → IsValidCluster (cluster_of plan) → HasFewBodies (cluster_of plan) → AreFreshNodes port plan nodes → AreFreshStores port plan stores
      → IsEarlier plan nodes stores []
  no_item nodes stores valid few ns ts = record {
    sound = sound_opened (cluster_of plan) [] valid few (record { stands = tt; lost = λ a. refl; downs = refl });
    room = omega arith;
    up = λ a. refl;
    nodes_did = each_weaker (IsFreshNode port plan) (HasDone plan []) nodes (λ n f. f.did_nothing) ns.each;
    stores_did = each_weaker (IsFreshStore port plan) (HasTaken plan []) stores (λ t f. f.took_nothing) ts.each;
  }

  -- ---- the cluster of these actors

  module _ {E : Type 0} (nodes : List (DurableNode D)) (stores : List (DurableStore D)) (none : IsEarlier plan nodes stores []) where
    pub opened_stands : (r : Result (Cluster D) E)
        → IfOk r (λ cluster. (earlier : List Item) → IsEarlier plan nodes stores earlier → StandsFor port plan cluster (opened earlier))
        → IfOk r (λ cluster. StandsFor port plan cluster (opened []))
    opened_stands (Ok cluster) stands = stands [] none
    opened_stands (Err e) stands = tt

    pub opened_stands_strictly : AreUnarmed port nodes stores → (r : Result (Cluster D) E)
        → IfOk r (λ cluster. (earlier : List Item) → IsEarlier plan nodes stores earlier → AreUnarmed port nodes stores
        → StandsStrictly port plan cluster (opened_strictly earlier))
        → IfOk r (λ cluster. StandsStrictly port plan cluster (opened_strictly []))
    opened_stands_strictly unarmed (Ok cluster) stands = stands [] none unarmed
    opened_stands_strictly unarmed (Err e) stands = tt
