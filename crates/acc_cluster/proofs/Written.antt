-- One slot written, and what the others are then.
use Rattle.std.proofs.Common.{◌≡◌, ◌⊎◌, ℕ, ◌<◌, Bool, true, false, List, Contains, length, refl, sym, ◌∙◌, ap, subst, inl}
use Rattle.std.specs.List.{slice_index_or}
use Rattle.std.proofs.Math.ListN.{set}
use Rattle.std.proofs.lemmas.List.{get_or-set_same, get_or-set_other}
use Rattle.std.proofs.lemmas.Bool.{eq-eqb}
use Rattle.acc_stamp.specs.declared.actors.Actor.{Actor}
use Rattle.acc_ports.specs.declared.disk.Disk.{Ghosts}
use Rattle.acc_ports.specs.Faults.{Rose}
use Rattle.acc_message.specs.Items.{same_actor}
use Rattle.acc_payloads.specs.Items.{downs_in}
use Rattle.acc_safety.proofs.Bridge.{same}
use Rattle.acc_schedule.specs.Actors.{actors}
use Rattle.acc_schedule.specs.Content.{Content}
use Rattle.acc_schedule_runs.specs.Situations.{Situation}
use Rattle.acc_schedule_runs.specs.Schedules.{cluster_of}
use Rattle.acc_schedule_runs.specs.Disks.{Disks}
use Rattle.acc_actors.specs.declared.slot.Slot.{Slot}
use Rattle.acc_actors.specs.declared.slot.Slot.TheVariants.{Empty}
use Rattle.acc_actors.specs.Slots.{SlotStands, IsStrictSlot, faults_in, IsTaken}
use Rattle.acc_actors.proofs.Apart.{IsApart}
use Rattle.acc_actors.proofs.Slots.{slot_apart, strict_apart}
use Rattle.acc_cluster.specs.Stands.{slot_at, AreActors, AreStrict}

-- this stands at the actor's number now, and nothing else has changed
pub record IsWritten {D : Type 0} (before now : List (Slot D)) (a : Actor) (slot : Slot D) : Type 0 where
  pub here : slot_at now a ≡ slot
  pub there : (b : Actor) → same_actor a b ≡ false → slot_at now b ≡ slot_at before b

-- by a write at the place
pub write_is : {D : Type 0} (before now : List (Slot D)) (a : Actor) (place : ℕ) (slot : Slot D) → place ≡ a.0 → place < length before → now ≡ set before place slot
    → IsWritten before now a slot
write_is before now a place slot at within is =
    record {
      here = ap (λ l. slice_index_or l a.0 Empty) is ∙ ap (λ k. slice_index_or (set before place slot) k Empty) (sym at) ∙ get_or-set_same before place slot Empty within;
      there = λ b apart.
          ap (λ l. slice_index_or l b.0 Empty) is
          ∙ get_or-set_other before place b.0 slot Empty (λ e. unlike (same_actor a b) apart (eq-eqb a.0 b.0 (sym at ∙ sym e)));
    }
  where
    unlike : (t : Bool) → t ≡ false → t ≡ true → ⊥
    unlike true e f = cc
    unlike false e f = cc

-- other actors than one
abbrev pub AllApart : Content → Situation → Situation → Actor → Type 0
AllApart plan s next a = (b : Actor) → same_actor a b ≡ false → IsApart (cluster_of plan) s next b

module _ {D : Type 0} (plan : Content) (before now : List (Slot D)) (s next : Situation) (a : Actor) (slot : Slot D) (written : IsWritten before now a slot)
    (known : Contains (actors plan.topology) a) (apart : AllApart plan s next a) where
  by_actor : (P : Actor → Type 0) → P a → ((b : Actor) → same_actor a b ≡ false → P b) → (b : Actor) → P b
  by_actor P here there b = by (same_actor a b) refl
    where
      by : (is : Bool) → same_actor a b ≡ is → P b
      by true e = subst P (same a b e) here
      by false e = there b e

  pub actors_written : (port : Ghosts D) → AreActors port plan before s → SlotStands port plan next a slot
      → AreActors port plan now next
  actors_written port h stands =
      record {
        each =
            by_actor (λ b. Contains (actors plan.topology) b → SlotStands port plan next b (slot_at now b))
            (λ there. subst (λ x. SlotStands port plan next a x) (sym written.here) stands)
            (λ b e there. subst (λ x. SlotStands port plan next b x) (sym (written.there b e)) (slot_apart plan s next b (apart b e) port (slot_at before b) (h.each b there)));
        only =
            by_actor (λ b. IsTaken (slot_at now b) → Contains (actors plan.topology) b) (λ taken. known)
            (λ b e taken. h.only b (subst IsTaken (written.there b e) taken));
      }

  pub strict_written : (port : Ghosts D) (disks later : Disks)
      → ((b : Actor) → same_actor a b ≡ false → (later.armed b ≡ disks.armed b) × (later.passed b ≡ disks.passed b))
      → AreStrict port plan before s disks → IsStrictSlot port plan next later a slot
      → AreStrict port plan now next later
  strict_written port disks later same_disks h stands =
      by_actor (λ b. Contains (actors plan.topology) b → IsStrictSlot port plan next later b (slot_at now b))
      (λ there. subst (λ x. IsStrictSlot port plan next later a x) (sym written.here) stands)
      (λ b e there.
      subst (λ x. IsStrictSlot port plan next later b x) (sym (written.there b e))
      (strict_apart plan s next b (apart b e) port disks later (slot_at before b) (same_disks b e).0 (same_disks b e).1 (h b there)))

  pub rose_written : (port : Ghosts D) → (downs_in a next.own ≡ downs_in a s.own) ⊎ Rose (faults_in port (slot_at before a)) (faults_in port slot)
      → (b : Actor) → (downs_in b next.own ≡ downs_in b s.own) ⊎ Rose (faults_in port (slot_at before b)) (faults_in port (slot_at now b))
  rose_written port here =
      by_actor (λ b. (downs_in b next.own ≡ downs_in b s.own) ⊎ Rose (faults_in port (slot_at before b)) (faults_in port (slot_at now b)))
      (subst (λ x. (downs_in a next.own ≡ downs_in a s.own) ⊎ Rose (faults_in port (slot_at before a)) (faults_in port x)) (sym written.here) here)
      (λ b e. inl (apart b e).downs)

-- no slot was written
module _ {D : Type 0} (plan : Content) (slots : List (Slot D)) (s next : Situation) (apart : (b : Actor) → IsApart (cluster_of plan) s next b) where
  pub actors_same : (port : Ghosts D) → AreActors port plan slots s → AreActors port plan slots next
  actors_same port h =
      record { each = λ b there. slot_apart plan s next b (apart b) port (slot_at slots b) (h.each b there); only = h.only }

  pub strict_same : (port : Ghosts D) (disks : Disks)
      → AreStrict port plan slots s disks → AreStrict port plan slots next disks
  strict_same port disks h =
      λ b there. strict_apart plan s next b (apart b) port disks disks (slot_at slots b) refl refl (h b there)
