-- A step of one actor in the cluster, from the call at its slot and what was entered.
use Rattle.std.proofs.Common.{◌≡◌, ℕ, zero, suc, ◌<◌, ◌≤◌, Bool, true, false, List, [], ◌∷◌, Option, None, Some, Result, Ok, Err, OnOk, IfErr, IfSome, Contains, is_none, length, refl, sym, ◌∙◌, ap, subst, inr, arith}
use Rattle.std.specs.List.{slice_index_or}
use Rattle.std.proofs.Math.ListN.{set}
use Rattle.acc_stamp.specs.declared.actors.Actor.{Actor}
use Rattle.acc_ports.specs.declared.disk.Disk.{Ghosts}
use Rattle.acc_ports.specs.Faults.{Rose}
use Rattle.acc_message.specs.declared.entry.Emitted.{Emitted}
use Rattle.acc_message.specs.declared.entry.Event.{Event}
use Rattle.acc_message.specs.declared.error.Which.{Which}
use Rattle.acc_message.specs.declared.error.RunError.{RunError}
use Rattle.acc_message.specs.declared.error.RunError.TheVariants.{OutOfMemory}
use Rattle.acc_message.specs.NodeRules.{Act}
use Rattle.acc_message.specs.Run.{Cluster as RunCluster, kept_of, is_down}
use Rattle.acc_run_laws.specs.Asks.{emits_if}
use Rattle.acc_run_laws.specs.Sends.{AreSendable}
use Rattle.acc_run_laws.proofs.Sendable.{next_sendable}
use Rattle.acc_schedule.specs.Actors.{actors}
use Rattle.acc_schedule.specs.Content.{Content}
use Rattle.acc_pasts.specs.Entries.{MayTake}
use Rattle.acc_pasts.proofs.Standing.{may_do}
use Rattle.acc_pasts.proofs.Sound.{sound_standing}
use Rattle.acc_schedule_runs.specs.Situations.{Situation, whole}
use Rattle.acc_schedule_runs.specs.Moves.{event_in, tried_if}
use Rattle.acc_schedule_runs.specs.Schedules.{cluster_of}
use Rattle.acc_schedule_runs.specs.Disks.{Disks}
use Rattle.acc_schedule_runs.specs.Limits.{EndsAt}
use Rattle.acc_history.specs.Stands.{EventTakesSent}
use Rattle.acc_actors.specs.declared.slot.Slot.{Slot}
use Rattle.acc_actors.specs.declared.slot.Slot.TheVariants.{Empty}
use Rattle.acc_actors.specs.Slots.{SlotStands, IsStrictSlot, faults_in}
use Rattle.acc_actors.specs.Asked.{step_by, over_disks, IsAsked, IsEmitted, HasTried, HasTriedStrictly}
use Rattle.acc_actors.proofs.Few.{few_whole}
use Rattle.acc_cluster.specs.declared.cluster.Cluster.{Cluster}
use Rattle.acc_cluster.specs.Entering.{HasPlace, IsPastOf}
use Rattle.acc_cluster.specs.Stands.{slot_at, StandsFor}
use Rattle.acc_cluster.specs.Steps.{hit, IfLimit}
use Rattle.acc_cluster.specs.Tried.{scheduled, HasStepped, HitsLimit}
use Rattle.acc_cluster.proofs.Hits.{map_limit, not_full}
use Rattle.acc_message.specs.Items.{same_actor}
use Rattle.acc_safety.proofs.Bridge.{same}
use Rattle.acc_cluster.proofs.Written.{IsWritten, write_is}
use Rattle.acc_cluster.proofs.Stepped.{has_stepped, stops_stepped}
use Rattle.acc_cluster.proofs.Limited.{both_limits}

-- ---- results

pub on_ok : {A E : Type 0} (P Q : Type 0) (r : Result A E) → (P → Q) → OnOk r P → OnOk r Q
on_ok P Q (Ok x) f h = f h
on_ok P Q (Err e) f h = tt

pub if_limit : {A : Type 0} (P Q : Which → ℕ → Type 0) (r : Result A RunError) → ((which : Which) (limit : ℕ) → P which limit → Q which limit) → IfErr r (IfLimit P) → IfErr r (IfLimit Q)
if_limit P Q (Ok x) f h = tt
if_limit P Q (Err e) f h = map_limit P Q f e h

pub both_ok : {A E : Type 0} (P Q : Type 0) (r : Result A E) → OnOk r P → OnOk r Q → OnOk r (P × Q)
both_ok P Q (Ok x) p q = (p, q)
both_ok P Q (Err e) p q = tt

-- no limit, but memory
pub never_limit : {A : Type 0} (P : Which → ℕ → Type 0) (r : Result A RunError) → IfErr r (λ e. e ≡ OutOfMemory) → IfErr r (IfLimit P)
never_limit P (Ok x) is = tt
never_limit P (Err e) is = subst (IfLimit P) (sym is) tt

-- ---- the slot

pub within_any : {T : Type 0} (xs : List T) (i : ℕ) (one other : T) → i < length xs → slice_index_or xs i one ≡ slice_index_or xs i other
within_any [] i one other low = absurd (none low)
  where
    none : i < 0 → ⊥
    none p = omega (arith, p)
within_any (x ∷ xs) zero one other low = refl
within_any (x ∷ xs) (suc i) one other low = within_any xs i one other (less low)
  where
    less : suc i < suc (length xs) → i < length xs
    less p = omega (arith, p)

-- an event that the actor may take next
pub record Goes (plan : Content) (s : Situation) (a : Actor) (event : Event) (act : Act) : Type 0 where
  pub known : Contains (actors plan.topology) a
  pub may : MayTake (cluster_of plan) (whole s) a (event_in s event) act
  pub none : kept_of (event_in s event) ≡ 0
  pub up : is_down a (whole s) ≡ false
  pub sent : EventTakesSent s event

module _ {D : Type 0} (port : Ghosts D) (plan : Content) (old : Cluster D) (a : Actor) (event : Event) (act : Act) (slot : Slot D)
    (here : slot ≡ slice_index_or old.slots.items a.0 slot) (within : a.0 < length old.slots.items) where
  slot_is : slot ≡ slot_at old.slots.items a
  slot_is = here ∙ within_any old.slots.items a.0 slot Empty within

  pub asked_at : (s : Situation) → StandsFor port plan old s → Goes plan s a event act → IsAsked port plan s (step_by a event act) slot
  asked_at s h goes =
      record {
        sound = h.sound;
        few = (h.room, h.past.within.few);
        stands = subst (λ (x : Slot D). SlotStands port plan s a x) (sym slot_is) (h.actors.each a goes.known);
        up = goes.up;
        may = goes.may;
      }

  pub sendable_at : (s : Situation) → StandsFor port plan old s → Goes plan s a event act → (given : Option Emitted) → IsEmitted (cluster_of plan) s a event given
      → IfSome given (λ emitted. AreSendable emitted.out)
  sendable_at s h goes None is = tt
  sendable_at s h goes (Some emitted) is =
      subst (λ (e : Emitted). AreSendable e.out) (sym (is ∙ ap (emits_if (cluster_of plan) (whole s) a) goes.may.act_is))
      (next_sendable (cluster_of plan) (whole s) a act (sound_standing (cluster_of plan) s h.sound) (may_do (cluster_of plan) (whole s) a (event_in s event) act goes.may) h.sound.few_bodies
      (few_whole s (h.room, h.past.within.few)))

  -- no count falls
  pub taken_counted : (new : List (Slot D)) (new_slot : Slot D) → new ≡ set old.slots.items a.0 new_slot → faults_in port slot ≤ faults_in port new_slot
      → (b : Actor) → faults_in port (slot_at old.slots.items b) ≤ faults_in port (slot_at new b)
  taken_counted new new_slot set_is counted b = by (same_actor a b) refl
    where
      written : IsWritten old.slots.items new a new_slot
      written = write_is old.slots.items new a a.0 new_slot refl within set_is

      same_count : {n k : ℕ} → n ≡ k → n ≤ k
      same_count is = omega (arith, is)

      by : (t : Bool) → same_actor a b ≡ t → faults_in port (slot_at old.slots.items b) ≤ faults_in port (slot_at new b)
      by false e = same_count (ap (faults_in port) (sym (written.there b e)))
      by true e =
          subst (λ (c : Actor). faults_in port (slot_at old.slots.items c) ≤ faults_in port (slot_at new c)) (same a b e)
          (subst (λ (x : Slot D). faults_in port x ≤ faults_in port (slot_at new a)) slot_is (subst (λ (x : Slot D). faults_in port slot ≤ faults_in port x) (sym written.here) counted))

  module _ (new_slot : Slot D) (given : Option Emitted)
      (ok : (s : Situation) → IsAsked port plan s (step_by a event act) slot → HasTried port plan s a event new_slot given)
      (strictly : (s : Situation) (disks : Disks) → IsAsked port plan s (step_by a event act) slot → IsStrictSlot port plan s disks a slot
      → HasTriedStrictly port plan (over_disks s disks) a event new_slot given)
      (P : Situation → Type 0) (goes : (s : Situation) → StandsFor port plan old s → P s → Goes plan s a event act) (r : Result (Unit {0}) RunError) where
    pub taken_ok : (new : Cluster D) → new.slots.items ≡ set old.slots.items a.0 new_slot
        → (given ≡ None → Rose (faults_in port slot) (faults_in port new_slot))
        → OnOk r ((cluster : RunCluster) (s : Situation) → IsPastOf old.history s → HasPlace s → EventTakesSent s event → IsEmitted cluster s a event given
        → IsPastOf new.history (tried_if (is_none given) cluster s a event))
        → OnOk r ((number : ℕ) (s : Situation) → StandsFor port plan old s → HasPlace s → P s
        → HasStepped port plan (scheduled None number a event) old new s)
    taken_ok new set_is cause entered = on_ok _ _ r (λ enter number s h place p.
        let go : Goes plan s a event act = goes s h p in
        let asked : IsAsked port plan s (step_by a event act) slot = asked_at s h go in
        let tried : HasTried port plan s a event new_slot given = ok s asked in
        has_stepped port plan old new s number a event h act new_slot given go.known
        (write_is old.slots.items new.slots.items a a.0 new_slot refl within set_is) go.may go.none go.up tried
        (enter (cluster_of plan) s h.past place go.sent tried.emitted)
        (λ none. subst (λ (x : Slot D). Rose (faults_in port x) (faults_in port new_slot)) slot_is (cause none))
        (λ disks are. strictly s disks asked (subst (λ (x : Slot D). IsStrictSlot port plan s disks a x) (sym slot_is) are))) entered

    pub taken_limit : (new : Cluster D) → new.slots.items ≡ set old.slots.items a.0 new_slot → faults_in port slot ≤ faults_in port new_slot
        → IfErr r (IfLimit (λ which limit. new.history ≡ old.history))
        → IfErr r (IfLimit (λ which limit. (cluster : RunCluster) (s : Situation) → IsPastOf old.history s → HasPlace s → IsEmitted cluster s a event given
        → (is_none given ≡ false) × EndsAt (λ front. front ≡ (tried_if false cluster s a event).own) s.own which limit))
        → IfErr r (IfLimit (λ which limit. (number : ℕ) (s : Situation) → StandsFor port plan old s → HasPlace s → P s
        → HitsLimit port plan (scheduled None number a event) old new s (hit which limit)))
    taken_limit new set_is counted same entered = if_limit _ _ r (λ which limit told number s h place p.
        let go : Goes plan s a event act = goes s h p in
        let asked : IsAsked port plan s (step_by a event act) slot = asked_at s h go in
        let tried : HasTried port plan s a event new_slot given = ok s asked in
        let ends = told.1 (cluster_of plan) s h.past place tried.emitted in
        record {
          reached = tried_if false (cluster_of plan) s a event;
          ends = inr (
            ends.1,
            λ disks are skipped.
                let answer : HasTriedStrictly port plan (over_disks s disks) a event new_slot given =
                strictly s disks asked (subst (λ (x : Slot D). IsStrictSlot port plan s disks a x) (sym slot_is) (are a go.known)) in
                sym answer.fails ∙ ends.0,
            refl,
          );
          first = λ is. absurd (not_full _ s which limit ends.1 place is);
          stops =
              stops_stepped port plan old new s number a event h act new_slot go.known
              (write_is old.slots.items new.slots.items a a.0 new_slot refl within set_is) go.may go.none go.up told.0
              (subst (λ b. SlotStands port plan (tried_if b (cluster_of plan) s a event) a new_slot) ends.0 tried.stands);
          none_fell = λ b known. taken_counted new.slots.items new_slot set_is counted b;
        }) (both_limits _ _ r same entered)
