-- What is left where memory was refused: an actor that isn't down stands as before.
use Rattle.std.proofs.Common.{◌≡◌, ◌⊎◌, ◌≤◌, Bool, true, false, List, [], ◌∷◌, inl, inr, Err, refl, sym, ◌∙◌, ap, subst}
use Rattle.std.specs.Prelude.{IsTrue}
use Rattle.std.proofs.lemmas.Bool.{true≢false}
use Rattle.acc_base.specs.declared.memory.OutOfMemory.{OutOfMemory}
use Rattle.acc_stamp.specs.declared.actors.Actor.{Actor}
use Rattle.acc_stamp.specs.Actor.{node_of}
use Rattle.acc_topology.specs.Layout.{Layout}
use Rattle.acc_ports.specs.declared.disk.Disk.{Ghosts}
use Rattle.acc_message.specs.declared.entry.Event.{Event}
use Rattle.acc_message.specs.Run.{is_node}
use Rattle.acc_payloads.specs.Items.{downs_in}
use Rattle.acc_durable_node.specs.Actor as node
use Rattle.acc_durable_node.specs.declared.actor.NodeActor.{NodeActor}
use Rattle.acc_durable_store.specs.Actor as store
use Rattle.acc_durable_store.specs.declared.actor.StoreActor.{StoreActor}
use Rattle.acc_schedule.specs.Content.{Content}
use Rattle.acc_schedule_runs.specs.Situations.{Situation}
use Rattle.acc_schedule_runs.specs.Schedules.{cluster_of}
use Rattle.acc_actors.specs.declared.slot.Slot.{Slot}
use Rattle.acc_actors.specs.declared.slot.Slot.TheVariants.{Empty, Node, Store}
use Rattle.acc_actors.specs.Pasts.{node_past, store_past}
use Rattle.acc_actors.specs.Slots.{SlotStages, StaysIn, faults_in, node_name, store_name}
use Rattle.acc_actors.specs.Asked.{ActorStep, HasAnswered, HasAnsweredAll, IsStaged}
use Rattle.acc_actors.proofs.Few.{refused_counts}

-- down and up
both : (b : Bool) → b ≡ true → b ≡ false → ⊥
both b down up = true≢false (sym down ∙ up)

module _ {D : Type 0} (port : Ghosts D) (plan : Content) (a : Actor) (layout : Layout) (layout_is : layout ≡ plan.topology) where
  pub node_stays : (n new : NodeActor D) → node.is_down n ≡ false → node.is_down new ≡ false → node.IsAsBefore port layout n new → node.disk_of new ≡ node.disk_of n
      → StaysIn port plan a (Node n) (Node new)
  node_stays n new up still_up as_before disk = record {
    stands = λ s at. record {
      kind = at.kind;
      stands = subst (λ (l : Layout). node.IsAsBefore port l n new) layout_is as_before (node_name plan (node_of a)) (node_past (cluster_of plan) s a) at.stands;
      down = still_up ∙ sym up ∙ at.down;
      counted = subst (λ (d : D). downs_in a s.own ≤ (port.state d).faults) (sym disk) at.counted;
    };
    strictly = λ s disks at. record {
      is_strict = subst (λ (d : D). IsTrue (port.state d).strict) (sym disk) at.is_strict;
      armed_is = λ _. ap (λ (d : D). (port.state d).armed) disk ∙ at.armed_is up;
      left = λ broken. absurd (both (node.is_down new) broken still_up);
    };
  }

  pub store_stays : (t new : StoreActor D) → store.is_down t ≡ false → store.is_down new ≡ false → store.IsAsBefore port layout t new → store.disk_of new ≡ store.disk_of t
      → StaysIn port plan a (Store t) (Store new)
  store_stays t new up still_up as_before disk = record {
    stands = λ s at. record {
      kind = at.kind;
      stands = subst (λ (l : Layout). store.IsAsBefore port l t new) layout_is as_before (store_name plan a) (store_past (cluster_of plan) s a) at.stands;
      down = still_up ∙ sym up ∙ at.down;
      counted = subst (λ (d : D). downs_in a s.own ≤ (port.state d).faults) (sym disk) at.counted;
    };
    strictly = λ s disks at. record {
      is_strict = subst (λ (d : D). IsTrue (port.state d).strict) (sym disk) at.is_strict;
      armed_is = λ _. ap (λ (d : D). (port.state d).armed) disk ∙ at.armed_is up;
      left = λ broken. absurd (both (store.is_down new) broken still_up);
    };
  }

-- ---- nothing was asked of the actor

-- a slot with a node is a node's
node_there : {D : Type 0} (port : Ghosts D) (plan : Content) (s : Situation) (a : Actor) (staged : List Event) (n : NodeActor D) → SlotStages port plan s a staged (Node n) → is_node a ≡ true
node_there port plan s a [] n at = at.kind
node_there port plan s a (event ∷ events) n at = absurd at

module _ {D : Type 0} (port : Ghosts D) (plan : Content) (slot : Slot D) (e : OutOfMemory) where
  pub none_answers : (step : ActorStep) → HasAnswered port plan step slot slot (Err e)
  none_answers step = record {
    ok = tt;
    strict = tt;
    refused = λ up. record { stands = λ s at. at; strictly = λ s disks at. at };
    faults = refused_counts e (faults_in port slot) (faults_in port slot) refl;
  }

  module _ (a : Actor) where
    not_without_store : (slot ≡ Empty) ⊎ ((n : NodeActor D) × (slot ≡ Node n)) → (s : Situation) (staged : List Event) → SlotStages port plan s a staged slot → is_node a ≡ false → ⊥
    not_without_store (inl is) s staged at kind = subst (SlotStages port plan s a staged) is at
    not_without_store (inr is) s staged at kind =
        both (is_node a) (node_there port plan s a staged is.0 (subst (SlotStages port plan s a staged) is.1 at)) kind

    pub none_settles : (slot ≡ Empty) ⊎ ((n : NodeActor D) × (slot ≡ Node n)) → (s : Situation) × (staged : List Event) × IsStaged port plan s a staged slot
        → HasAnsweredAll port plan a slot slot (Err e)
    none_settles without may = record {
      ok = tt;
      strict = tt;
      refused = λ kind. absurd (not_without_store without may.0 may.1 may.2.stands kind);
      faults = refused_counts e (faults_in port slot) (faults_in port slot) refl;
    }
