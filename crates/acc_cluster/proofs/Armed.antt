-- A call of a disk is armed: the cluster stands for what it stood for.
use Rattle.std.proofs.Common.{◌≡◌, ℕ, ◌<◌, List, Some, Contains, length, refl, sym, ◌∙◌, subst}
use Rattle.std.specs.List.{slice_index_or}
use Rattle.std.proofs.Math.ListN.{set}
use Rattle.acc_stamp.specs.declared.actors.Actor.{Actor}
use Rattle.acc_ports.specs.declared.disk.Disk.{Ghosts}
use Rattle.acc_schedule.specs.Actors.{actors}
use Rattle.acc_schedule.specs.Content.{Content}
use Rattle.acc_schedule_runs.specs.Situations.{Situation}
use Rattle.acc_schedule_runs.specs.Schedules.{cluster_of}
use Rattle.acc_schedule_runs.specs.Disks.{Disks, after_fail}
use Rattle.acc_actors.specs.declared.slot.Slot.{Slot}
use Rattle.acc_actors.specs.declared.slot.Slot.TheVariants.{Empty}
use Rattle.acc_actors.specs.Slots.{SlotStands, IsStrictSlot}
use Rattle.acc_actors.proofs.Apart.{apart_itself}
use Rattle.acc_actors.proofs.Few.{entry_other}
use Rattle.acc_cluster.specs.declared.cluster.Cluster.{Cluster}
use Rattle.acc_cluster.specs.Stands.{slot_at, AreActors, StandsFor, AreStrict}
use Rattle.acc_cluster.proofs.Stepped.{turned}
use Rattle.acc_cluster.proofs.Taken.{within_any}
use Rattle.acc_cluster.proofs.Written.{IsWritten, AllApart, write_is, actors_written, strict_written}

module _ {D : Type 0} (plan : Content) (old : Cluster D) (slots : List (Slot D)) (a : Actor) (slot new_slot : Slot D) (here : slot ≡ slice_index_or old.slots.items a.0 slot)
    (within : a.0 < length old.slots.items) (known : Contains (actors plan.topology) a) (set_is : slots ≡ set old.slots.items a.0 new_slot) (s : Situation) where
  slot_is : slot ≡ slot_at old.slots.items a
  slot_is = here ∙ within_any old.slots.items a.0 slot Empty within

  written : IsWritten old.slots.items slots a new_slot
  written = write_is old.slots.items slots a a.0 new_slot refl within set_is

  apart : AllApart plan s s a
  apart b e = apart_itself (cluster_of plan) s b

  pub armed_stands : (port : Ghosts D) → (SlotStands port plan s a slot → SlotStands port plan s a new_slot)
      → StandsFor port plan old s → AreActors port plan slots s
  armed_stands port stands h =
      actors_written plan old.slots.items slots s s a new_slot written known apart port h.actors
      (stands (subst (λ (x : Slot D). SlotStands port plan s a x) (sym slot_is) (h.actors.each a known)))

  pub armed_strictly : (port : Ghosts D) (disks : Disks) (calls : ℕ)
      → (IsStrictSlot port plan s disks a slot → IsStrictSlot port plan s (after_fail a calls disks) a new_slot)
      → AreStrict port plan old.slots.items s disks → AreStrict port plan slots s (after_fail a calls disks)
  armed_strictly port disks calls strictly are =
      strict_written plan old.slots.items slots s s a new_slot written known apart port disks (after_fail a calls disks)
      (λ b e. (entry_other a b (Some calls) disks.armed (turned a b e), refl)) are
      (strictly (subst (λ (x : Slot D). IsStrictSlot port plan s disks a x) (sym slot_is) (are a known)))
