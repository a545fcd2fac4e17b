-- A disk on which nothing is armed stays so.
use Rattle.std.proofs.Common.{◌≡◌, ℕ, Bool, true, false, cond, Option, None, refl}
use Rattle.acc_stamp.specs.declared.actors.Actor.{Actor}
use Rattle.acc_ports.specs.declared.disk.Disk.{Ghosts}
use Rattle.acc_message.specs.Items.{same_actor}
use Rattle.acc_schedule.specs.Content.{Content}
use Rattle.acc_schedule_runs.specs.Situations.{Situation}
use Rattle.acc_schedule_runs.specs.Schedules.{cluster_of}
use Rattle.acc_schedule_runs.specs.Disks.{Disks, fresh_disks, after_step, after_restart}
use Rattle.acc_actors.specs.declared.slot.Slot.{Slot}
use Rattle.acc_actors.specs.Slots.{IsStrictSlot}
use Rattle.acc_actors.proofs.Apart.{apart_itself}
use Rattle.acc_actors.proofs.Slots.{strict_apart}

either_way : (test : Bool) (calls : Option ℕ) → calls ≡ cond test calls calls
either_way true calls = refl
either_way false calls = refl

step_armed : (test : Bool) (a : Actor) → fresh_disks.armed a ≡ (after_step test a fresh_disks).armed a
step_armed true a = either_way (same_actor a a) None
step_armed false a = refl

step_passed : (test : Bool) (a : Actor) → fresh_disks.passed a ≡ (after_step test a fresh_disks).passed a
step_passed true a = either_way (same_actor a a) None
step_passed false a = refl

module _ {D : Type 0} (port : Ghosts D) (plan : Content) (s : Situation) (a : Actor) (slot : Slot D) where
  as_fresh : (disks : Disks) → fresh_disks.armed a ≡ disks.armed a → fresh_disks.passed a ≡ disks.passed a
      → IsStrictSlot port plan s disks a slot → IsStrictSlot port plan s fresh_disks a slot
  as_fresh disks same_armed same_passed h =
      strict_apart plan s s a (apart_itself (cluster_of plan) s a) port disks fresh_disks slot same_armed same_passed h

  pub stepped_fresh : (test : Bool) → IsStrictSlot port plan s (after_step test a fresh_disks) a slot
      → IsStrictSlot port plan s fresh_disks a slot
  stepped_fresh test h = as_fresh (after_step test a fresh_disks) (step_armed test a) (step_passed test a) h

  pub reopened_fresh : IsStrictSlot port plan s (after_restart a fresh_disks) a slot
      → IsStrictSlot port plan s fresh_disks a slot
  reopened_fresh h = as_fresh (after_restart a fresh_disks) (either_way (same_actor a a) None) (either_way (same_actor a a) None) h
