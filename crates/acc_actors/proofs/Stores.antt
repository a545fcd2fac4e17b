-- The store that stands at the number of an actor.
use Rattle.std.proofs.Common.{◌≡◌, ◌⊎◌, inl, inr, false, List, [], Option, None, Some, IfSome, is_none, sym, ◌∙◌, ap, subst}
use Rattle.std.proofs.lemmas.Bool.{true≢false}
use Rattle.acc_stamp.specs.declared.actors.Actor.{Actor}
use Rattle.acc_topology.specs.Layout.{Layout}
use Rattle.acc_ports.specs.declared.disk.Disk.{Ghosts}
use Rattle.acc_message.specs.declared.message.Message.{Message}
use Rattle.acc_message.specs.Run.{is_node, is_down}
use Rattle.acc_message.specs.Taken.{Taken}
use Rattle.acc_message.specs.StoreRules.{replay}
use Rattle.acc_store.specs.declared.store.Store.{Store as OpenStore}
use Rattle.acc_store.specs.Stands as open_store
use Rattle.acc_payloads.specs.Stops.{Stop, Past, kept_with}
use Rattle.acc_durable_store.specs.declared.name.StoreName.{StoreName}
use Rattle.acc_durable_store.specs.Actor as store
use Rattle.acc_durable_store.specs.declared.actor.StoreActor.{StoreActor}
use Rattle.acc_durable_node.specs.declared.actor.NodeActor.{NodeActor}
use Rattle.acc_schedule.specs.Content.{Content}
use Rattle.acc_pasts.specs.Stopped.{IsSound}
use Rattle.acc_pasts.proofs.Replayed.{store_replayed}
use Rattle.acc_pasts.proofs.Sound.{sound_standing}
use Rattle.acc_schedule_runs.specs.Situations.{Situation, whole}
use Rattle.acc_schedule_runs.specs.Schedules.{cluster_of}
use Rattle.acc_actors.specs.declared.slot.Slot.{Slot}
use Rattle.acc_actors.specs.declared.slot.Slot.TheVariants.{Empty, Node, Store}
use Rattle.acc_actors.specs.Pasts.{store_past}
use Rattle.acc_actors.specs.Slots.{NodeStands, StoreStands, SlotStands, IsTaken, store_name}
use Rattle.acc_actors.specs.Stores.{IsStoreOf}

-- what a slot shows
abbrev pub Shows : {D : Type 0} → Ghosts D → Slot D → OpenStore → Type 0
Shows port slot t = (plan : Content) (s : Situation) (a : Actor) → IsSound (cluster_of plan) s → SlotStands port plan s a slot
    → (is_node a ≡ false) × (is_down a (whole s) ≡ false) × IsStoreOf plan s a t

-- no store that is up stands there
abbrev pub HidesNone : {D : Type 0} → Ghosts D → Slot D → Type 0
HidesNone port slot = (plan : Content) (s : Situation) (a : Actor) → SlotStands port plan s a slot → is_node a ≡ false → is_down a (whole s) ≡ false → ⊥

module _ {D : Type 0} (port : Ghosts D) (slot : Slot D) where
  none_at_empty : slot ≡ Empty → HidesNone port slot
  none_at_empty is plan s a h kind up = subst (λ (x : Slot D). SlotStands port plan s a x) is h

  none_at_node : (n : NodeActor D) → slot ≡ Node n → HidesNone port slot
  none_at_node n is plan s a h kind up =
      let here : NodeStands port plan s a n = subst (λ (x : Slot D). SlotStands port plan s a x) is h in
      absurd (true≢false (sym here.kind ∙ kind))

  pub none_without_store : (slot ≡ Empty) ⊎ ((n : NodeActor D) × (slot ≡ Node n)) → HidesNone port slot
  none_without_store (inl is) = none_at_empty is
  none_without_store (inr is) = none_at_node is.0 is.1

  module _ {R : Type 0} (view : R → OpenStore) (t : StoreActor D) (is : slot ≡ Store t) (o : Option R) (told : is_none o ≡ store.is_down t) where
    here : (plan : Content) (s : Situation) (a : Actor) → SlotStands port plan s a slot → StoreStands port plan s a t
    here plan s a h = subst (λ (x : Slot D). SlotStands port plan s a x) is h

    pub taken_there : IfSome o (λ r. IsTaken slot)
    taken_there = by o
      where
        by : (o : Option R) → IfSome o (λ r. IsTaken slot)
        by None = tt
        by (Some r) = subst (λ (x : Slot D). IsTaken x) (sym is) tt

    pub none_at_store : o ≡ None → HidesNone port slot
    none_at_store none plan s a h kind up =
        let x : StoreStands port plan s a t = here plan s a h in
        absurd (true≢false (sym (ap is_none none) ∙ told ∙ x.down ∙ up))

    pub shown_at_store : IfSome o (λ r. (layout : Layout) (name : StoreName) (past : Past Message) (staged : List (Stop Message)) → store.IsStaging port layout name past staged t
        → (open_store.actor_of (view r) ≡ name.actor) × open_store.StandsFor layout (view r) (replay layout name.actor (kept_with staged past).acts))
        → IfSome o (λ r. Shows port slot (view r))
    shown_at_store stands = by o told stands
      where
        by : (o : Option R) → is_none o ≡ store.is_down t
            → IfSome o (λ r. (layout : Layout) (name : StoreName) (past : Past Message) (staged : List (Stop Message)) → store.IsStaging port layout name past staged t
            → (open_store.actor_of (view r) ≡ name.actor) × open_store.StandsFor layout (view r) (replay layout name.actor (kept_with staged past).acts))
            → IfSome o (λ r. Shows port slot (view r))
        by None told stands = tt
        by (Some r) told stands = λ plan s a sound h.
            let x : StoreStands port plan s a t = here plan s a h in
            let found = stands plan.topology (store_name plan a) (store_past (cluster_of plan) s a) [] x.stands in (
              x.kind,
              sym x.down ∙ sym told,
              record {
                actor_is = found.0;
                stands =
                    subst (λ (history : List Taken). open_store.StandsFor plan.topology (view r) history)
                    (sym (store_replayed (cluster_of plan) (whole s) a (sound_standing (cluster_of plan) s sound) x.kind)) found.1;
              },
            )
