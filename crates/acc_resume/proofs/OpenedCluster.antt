-- The cluster of actors that journals give back.
use Rattle.std.proofs.Common.{◌≡◌, ℕ, false, List, [], ◌∷◌, ◌++◌, map, Result, Ok, Err, Contains, refl, sym, ◌∙◌, ap, subst}
use Rattle.std.specs.Prelude.{IfOk}
use Rattle.std.specs.List.{AllByRecursion}
use Rattle.acc_ports.specs.declared.disk.Disk.{Ghosts}
use Rattle.acc_stamp.specs.declared.actors.Actor.{Actor}
use Rattle.acc_stamp.specs.Actor.{actor_of}
use Rattle.acc_stamp.proofs.Rising.{each_weaker}
use Rattle.acc_message.specs.declared.item.Item.{Item}
use Rattle.acc_message.specs.Run.{is_down, IsRun}
use Rattle.acc_safety.specs.Places.{IsIn}
use Rattle.acc_safety.specs.Valid.{IsValidCluster}
use Rattle.acc_safety.proofs.PlaceOrder.{each_from, map-IsIn, IsIn-append_right, IsIn-Contains}
use Rattle.acc_run_laws.specs.Sends.{HasFewBodies}
use Rattle.acc_pasts.proofs.Sound.{sound_opened}
use Rattle.acc_schedule.specs.Actors.{actors, stores_from}
use Rattle.acc_schedule.specs.Content.{Content}
use Rattle.acc_schedule_runs.specs.Schedules.{cluster_of}
use Rattle.acc_schedule_runs.specs.StrictMoves.{opened_strictly}
use Rattle.acc_durable_node.specs.declared.node.DurableNode.{DurableNode}
use Rattle.acc_durable_store.specs.declared.store.DurableStore.{DurableStore}
use Rattle.acc_durable_store.specs.Store as store
use Rattle.acc_actors.specs.Opened.{HasDone, HasTaken, IsUnarmed}
use Rattle.acc_cluster.specs.declared.tested.TestedCluster.{TestedCluster}
use Rattle.acc_cluster.specs.Opened.{IsNodeOf, IsStoreOf, IsStoreNumber, AreActorsOf, IsEarlier, AreUnarmed}
use Rattle.acc_cluster.specs.Safe.{HasLowPast, TookLow}
use Rattle.acc_cluster.specs.Stands.{StandsStrictly}
use Rattle.acc_cluster.specs.Tested.{HaveLowPasts}
use Rattle.acc_left.specs.declared.image.Image.{Image}
use Rattle.acc_left_laws.specs.Left.{HasRoomAfter, reopened_run}
use Rattle.acc_resume.specs.Opened.{IsOpenedNode, IsOpenedStore, AreOpenedNodes, AreOpenedStores}
use Rattle.acc_resume.specs.Resumed.{OfEachRun}

module _ {D : Type 0} (port : Ghosts D) (plan : Content) (images : List Image) (nodes : List (DurableNode D)) (stores : List (DurableStore D))
    (ns : AreOpenedNodes port plan images nodes) (ts : AreOpenedStores port plan images stores) where
  abbrev IsNode : DurableNode D → Type 0
  IsNode n = IsOpenedNode port plan images n.name.number n

  pub nodes_of_plan : AllByRecursion (IsNodeOf port plan) nodes
  nodes_of_plan = each_weaker IsNode (IsNodeOf port plan) nodes (λ n f. f.of_plan) ns.each

  pub stores_of_plan : AllByRecursion (IsStoreOf port plan) stores
  stores_of_plan = each_weaker (IsOpenedStore port plan images) (IsStoreOf port plan) stores (λ t f. f.of_plan) ts.each

  pub low_pasts : HaveLowPasts plan nodes stores
  low_pasts = record {
    nodes_did = each_weaker IsNode (HasLowPast plan) nodes (λ n f. f.low) ns.each;
    stores_did = each_weaker (IsOpenedStore port plan images) (TookLow plan) stores (λ t f. f.low) ts.each;
  }

  unarmed : AreUnarmed port nodes stores
  unarmed = record {
    nodes_are = each_weaker IsNode (λ (n : DurableNode D). IsUnarmed port n.journal.disk) nodes (λ n f. f.unarmed) ns.each;
    stores_are = each_weaker (IsOpenedStore port plan images) (λ (t : DurableStore D). IsUnarmed port t.journal.disk) stores (λ t f. f.unarmed) ts.each;
  }

  -- ---- they are the actors of the plan

  numbered_as : (all : List (DurableNode D)) → map (λ (n : DurableNode D). actor_of n.name.number 0) all ≡ map (λ (k : ℕ). actor_of k 0) (map (λ (n : DurableNode D). n.name.number) all)
  numbered_as [] = refl
  numbered_as (n ∷ all) = ap (λ rest. actor_of n.name.number 0 ∷ rest) (numbered_as all)

  with_kinds : (all : List (DurableStore D)) → AllByRecursion (IsOpenedStore port plan images) all
      → AllByRecursion (λ (t : DurableStore D). Contains (actors plan.topology) (store.actor_in t)) all → AllByRecursion (IsStoreNumber plan) all
  with_kinds [] opened known = tt
  with_kinds (t ∷ all) opened known = (record { member = known.0; kind = opened.0.kind }, with_kinds all opened.1 known.1)

  pub are_actors : AreActorsOf plan nodes stores
  are_actors =
      let front = map (λ (k : ℕ). actor_of k 0) plan.topology.nodes in
      let all : map (λ (n : DurableNode D). actor_of n.name.number 0) nodes ++ map store.actor_in stores ≡ actors plan.topology =
      (λ i. (numbered_as nodes ∙ ap (map (λ (k : ℕ). actor_of k 0)) ns.numbers) i ++ ts.actors_are i) in
      record {
        nodes_are = ns.numbers;
        known = with_kinds stores ts.each
            (each_from (λ (t : DurableStore D). Contains (actors plan.topology) (store.actor_in t)) stores
            (λ t there.
            IsIn-Contains (store.actor_in t) (actors plan.topology)
            (IsIn-append_right (store.actor_in t) front (stores_from 1 plan.topology.shards)
            (subst (IsIn (store.actor_in t)) ts.actors_are (map-IsIn store.actor_in t stores there)))));
        each = λ a there. subst (λ (l : List Actor). Contains l a) (sym all) there;
      }

  -- ---- after a run that left the journals

  module _ (earlier : List Item) (did : AllByRecursion (HasDone plan earlier) nodes) (took : AllByRecursion (HasTaken plan earlier) stores) where
    is_earlier : IsValidCluster (cluster_of plan) → HasFewBodies (cluster_of plan) → IsRun (cluster_of plan) earlier → HasRoomAfter earlier
        → ((a : Actor) → is_down a earlier ≡ false) → IsEarlier plan nodes stores earlier
    is_earlier valid few run room up = record {
      sound = sound_opened (cluster_of plan) earlier valid few run;
      room = room;
      up = up;
      nodes_did = did;
      stores_did = took;
    }

  all_took : (earlier : List Item) (all : List (DurableStore D))
      → ((t : DurableStore D) → IsOpenedStore port plan images t → Contains (actors plan.topology) (store.actor_in t) → HasTaken plan earlier t)
      → AllByRecursion (IsOpenedStore port plan images) all → AllByRecursion (IsStoreNumber plan) all → AllByRecursion (HasTaken plan earlier) all
  all_took earlier [] tells opened known = tt
  all_took earlier (t ∷ all) tells opened known = (tells t opened.0 known.0.member, all_took earlier all tells opened.1 known.1)

  pub opened_stands : {E : Type 0} → IsValidCluster (cluster_of plan) → HasFewBodies (cluster_of plan)
      → OfEachRun plan images (λ earlier. IsRun (cluster_of plan) earlier × ((a : Actor) → is_down a earlier ≡ false)) → (r : Result (TestedCluster D) E)
      → IfOk r (λ cluster. (earlier : List Item) → IsEarlier plan nodes stores earlier → AreUnarmed port nodes stores
      → StandsStrictly port plan cluster.cluster (opened_strictly earlier))
      → IfOk r (λ cluster. OfEachRun plan images (λ earlier. StandsStrictly port plan cluster.cluster (opened_strictly earlier)))
  opened_stands valid few goes_on (Err e) stands = tt
  opened_stands valid few goes_on (Ok cluster) stands = λ s keeps has room.
      let earlier = reopened_run plan s keeps in
      let on = goes_on s keeps has room in
      stands earlier
      (is_earlier earlier (each_weaker IsNode (HasDone plan earlier) nodes (λ n f. f.did s keeps has room) ns.each)
      (all_took earlier stores (λ t f known. f.took known s keeps has room) ts.each are_actors.known) valid few on.0 room on.1) unarmed
