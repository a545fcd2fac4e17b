-- The store that stands at the number of an actor.
use Rattle.std.proofs.Common.{◌≡◌, ◌<◌, ◌≤◌, Option, None, Some, IfSome, length, sym, ◌∙◌, subst}
use Rattle.std.proofs.lemmas.List.{get_or_past}
use Rattle.std.specs.List.{slice_index_or}
use Rattle.acc_stamp.specs.declared.actors.Actor.{Actor}
use Rattle.acc_ports.specs.declared.disk.Disk.{Ghosts}
use Rattle.acc_store.specs.declared.store.Store.{Store as OpenStore}
use Rattle.acc_schedule.specs.Content.{Content}
use Rattle.acc_schedule_runs.specs.Situations.{Situation}
use Rattle.acc_actors.specs.declared.slot.Slot.{Slot}
use Rattle.acc_actors.specs.declared.slot.Slot.TheVariants.{Empty}
use Rattle.acc_actors.specs.Slots.{SlotStands, IsTaken}
use Rattle.acc_actors.specs.Stores.{IsStoreUp, IsStoreOf}
use Rattle.acc_actors.proofs.Stores.{Shows, HidesNone}
use Rattle.acc_cluster.specs.declared.cluster.Cluster.{Cluster}
use Rattle.acc_cluster.specs.Stands.{slot_at, StandsFor}
use Rattle.acc_cluster.proofs.Taken.{within_any}

module _ {D : Type 0} (port : Ghosts D) (cluster : Cluster D) (a : Actor) where
  pub none_past : length cluster.slots.items ≤ a.0 → (plan : Content) (s : Situation) → StandsFor port plan cluster s → IsStoreUp plan s a → ⊥
  none_past high plan s h up =
      subst (λ (x : Slot D). SlotStands port plan s a x) (get_or_past cluster.slots.items a.0 Empty high) (h.actors.each a up.member)

  module _ (slot : Slot D) (found : slot ≡ slice_index_or cluster.slots.items a.0 slot) (within : a.0 < length cluster.slots.items) where
    at : slot ≡ slot_at cluster.slots.items a
    at = found ∙ within_any cluster.slots.items a.0 slot Empty within

    pub none_here : HidesNone port slot → (plan : Content) (s : Situation) → StandsFor port plan cluster s → IsStoreUp plan s a → ⊥
    none_here hides plan s h up =
        hides plan s a (subst (λ (x : Slot D). SlotStands port plan s a x) (sym at) (h.actors.each a up.member)) up.kind up.up

    pub shown_here : {R : Type 0} (view : R → OpenStore) (o : Option R) → IfSome o (λ r. IsTaken slot) → IfSome o (λ r. Shows port slot (view r))
        → IfSome o (λ r. (plan : Content) (s : Situation) → StandsFor port plan cluster s → IsStoreUp plan s a × IsStoreOf plan s a (view r))
    shown_here view None taken shows = tt
    shown_here view (Some r) taken shows = λ plan s h.
        let member = h.actors.only a (subst (λ (x : Slot D). IsTaken x) at taken) in
        let seen = shows plan s a h.sound (subst (λ (x : Slot D). SlotStands port plan s a x) (sym at) (h.actors.each a member)) in
        (record { member = member; kind = seen.0; up = seen.1 }, seen.2)
