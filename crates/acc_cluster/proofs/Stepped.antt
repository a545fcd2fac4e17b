-- The cluster behind a step of one actor.
use Rattle.std.proofs.Common.{◌≡◌, ◌⊎◌, ℕ, Bool, true, false, List, [], Option, None, Some, Contains, is_none, refl, sym, ◌∙◌, ap, subst, inl, inr}
use Rattle.std.proofs.lemmas.Bool.{true≢false, eq-eqb}
use Rattle.acc_safety.proofs.Bridge.{same}
use Rattle.acc_stamp.specs.declared.actors.Actor.{Actor}
use Rattle.acc_ports.specs.declared.disk.Disk.{Ghosts}
use Rattle.acc_ports.specs.Faults.{Rose}
use Rattle.acc_message.specs.declared.entry.Emitted.{Emitted}
use Rattle.acc_message.specs.declared.entry.Event.{Event}
use Rattle.acc_message.specs.declared.item.Skip.{Skip}
use Rattle.acc_message.specs.declared.item.Item.TheVariants.{Skipped}
use Rattle.acc_message.specs.Items.{same_actor}
use Rattle.acc_message.specs.NodeRules.{Act}
use Rattle.acc_message.specs.Run.{is_down, kept_of}
use Rattle.acc_payloads.specs.Items.{downs_in}
use Rattle.acc_actor_laws.proofs.Standing.{not_none}
use Rattle.acc_schedule.specs.Actors.{actors}
use Rattle.acc_schedule.specs.Content.{Content}
use Rattle.acc_pasts.specs.Entries.{MayTake}
use Rattle.acc_pasts.specs.Stopped.{IsSound}
use Rattle.acc_pasts.proofs.Sound.{sound_entered, sound_stopped_one, sound_skip}
use Rattle.acc_schedule_runs.specs.Situations.{Situation, whole}
use Rattle.acc_schedule_runs.specs.Moves.{with_item, entry_of, event_in, is_journalled, tried_if}
use Rattle.acc_schedule_runs.specs.Schedules.{cluster_of}
use Rattle.acc_payloads.specs.Appends.{after_append, passed_in}
use Rattle.acc_schedule_runs.specs.Disks.{Disks, after_step}
use Rattle.acc_actors.specs.declared.slot.Slot.{Slot}
use Rattle.acc_actors.specs.Slots.{SlotStands, IsStrictSlot, faults_in}
use Rattle.acc_actors.specs.Asked.{over_disks, HasRoom, IsEmitted, HasTried, HasTriedStrictly}
use Rattle.acc_actors.proofs.Apart.{IsApart, apart_skip, apart_tried}
use Rattle.acc_actors.proofs.Few.{entry_other}
use Rattle.acc_cluster.specs.declared.cluster.Cluster.{Cluster}
use Rattle.acc_history.specs.declared.history.History.{History}
use Rattle.acc_cluster.specs.Entering.{IsPastOf}
use Rattle.acc_cluster.specs.Stands.{slot_at, AreActors, StandsFor, AreStrict}
use Rattle.acc_cluster.specs.Limits.{StopsAt}
use Rattle.acc_cluster.specs.Tried.{scheduled, HasStepped}
use Rattle.acc_cluster.proofs.Written.{IsWritten, AllApart, actors_written, strict_written, rose_written, actors_same, strict_same}

-- what is armed on the disks of others
pub others_disks : (journalled : Bool) (a : Actor) (disks : Disks) (b : Actor) → same_actor b a ≡ false
    → ((after_step journalled a disks).armed b ≡ disks.armed b) × ((after_step journalled a disks).passed b ≡ disks.passed b)
others_disks true a disks b apart = (entry_other a b (after_append (disks.armed a)) disks.armed apart, entry_other a b (passed_in (disks.armed a)) disks.passed apart)
others_disks false a disks b apart = (refl, refl)

pub turned : (a b : Actor) → same_actor a b ≡ false → same_actor b a ≡ false
turned a b e = by (same_actor b a) refl
  where
    by : (t : Bool) → same_actor b a ≡ t → t ≡ false
    by true is = absurd (true≢false (sym (eq-eqb a.0 b.0 (ap (λ (x : Actor). x.0) (sym (same b a is)))) ∙ e))
    by false is = refl

room_still : (plan : Content) (fails : Bool) (s : Situation) (a : Actor) (event : Event) → HasRoom s → HasRoom (tried_if fails (cluster_of plan) s a event)
room_still plan true s a event room = room
room_still plan false s a event room = room

sound_tried : (plan : Content) (fails : Bool) (s : Situation) (a : Actor) (event : Event) (act : Act) → MayTake (cluster_of plan) (whole s) a (event_in s event) act
    → kept_of (event_in s event) ≡ 0 → is_down a (whole s) ≡ false → (fails ≡ true → is_journalled a event ≡ true) → IsSound (cluster_of plan) s
    → IsSound (cluster_of plan) (tried_if fails (cluster_of plan) s a event)
sound_tried plan true s a event act may none up journalled sound = sound_stopped_one (cluster_of plan) s a event act may (journalled refl) sound
sound_tried plan false s a event act may none up journalled sound = sound_entered (cluster_of plan) s a event act may none up sound

module _ {D : Type 0} (port : Ghosts D)
    (plan : Content) (old new : Cluster D) (s : Situation) (number : ℕ) (a : Actor) (event : Event) (h : StandsFor port plan old s) where
  -- taken, or stopped
  pub has_stepped : (act : Act) (slot : Slot D) (given : Option Emitted) → Contains (actors plan.topology) a → IsWritten old.slots.items new.slots.items a slot
      → MayTake (cluster_of plan) (whole s) a (event_in s event) act → kept_of (event_in s event) ≡ 0 → is_down a (whole s) ≡ false
      → HasTried port plan s a event slot given → IsPastOf new.history (tried_if (is_none given) (cluster_of plan) s a event)
      → (given ≡ None → Rose (faults_in port (slot_at old.slots.items a)) (faults_in port slot))
      → ((disks : Disks) → IsStrictSlot port plan s disks a (slot_at old.slots.items a)
      → HasTriedStrictly port plan (over_disks s disks) a event slot given)
      → HasStepped port plan (scheduled None number a event) old new s
  has_stepped act slot given known written may none up tried past cause strictly =
      record {
        fails = is_none given;
        may = journalled given tried.emitted;
        stands = record {
          sound = sound_tried plan (is_none given) s a event act may none up (journalled given tried.emitted) h.sound;
          room = room_still plan (is_none given) s a event h.room;
          past = past;
          actors = actors_written plan old.slots.items new.slots.items s (tried_if (is_none given) (cluster_of plan) s a event) a slot written known apart port h.actors tried.stands;
        };
        rose = λ b there. rose_written plan old.slots.items new.slots.items s (tried_if (is_none given) (cluster_of plan) s a event) a slot written known apart port (rose given cause) b;
        strictly = λ disks are.
            let answer : HasTriedStrictly port plan (over_disks s disks) a event slot given = strictly disks (are a known) in (
              λ skipped. answer.fails,
              strict_written plan old.slots.items new.slots.items s (tried_if (is_none given) (cluster_of plan) s a event) a slot written known apart port disks
                  (after_step (is_journalled a event) a disks) (λ b e. others_disks (is_journalled a event) a disks b (turned a b e)) are answer.strictly,
            );
      }
    where
      journalled : (given : Option Emitted) → IsEmitted (cluster_of plan) s a event given → is_none given ≡ true → is_journalled a event ≡ true
      journalled None is fails = is
      journalled (Some emitted) is fails = cc

      apart : AllApart plan s (tried_if (is_none given) (cluster_of plan) s a event) a
      apart b e = apart_tried (cluster_of plan) s h.sound (is_none given) a b event act e may

      rose : (given : Option Emitted) → (given ≡ None → Rose (faults_in port (slot_at old.slots.items a)) (faults_in port slot))
          → (downs_in a (tried_if (is_none given) (cluster_of plan) s a event).own ≡ downs_in a s.own) ⊎ Rose (faults_in port (slot_at old.slots.items a)) (faults_in port slot)
      rose None cause = inr (cause refl)
      rose (Some emitted) cause = inl refl

  -- passed over
  pub has_skipped : (cause : Skip) → new.slots.items ≡ old.slots.items → IsPastOf new.history (with_item (Skipped number cause) s)
      → HasStepped port plan (scheduled (Some cause) number a event) old new s
  has_skipped cause same_slots past =
      record {
        fails = false;
        may = λ fails. cc;
        stands = record {
          sound = sound_skip (cluster_of plan) s number cause h.sound;
          room = h.room;
          past = past;
          actors = actors_same plan new.slots.items s (with_item (Skipped number cause) s) apart port (subst (λ (slots : List (Slot D)). AreActors port plan slots s) (sym same_slots) h.actors);
        };
        rose = λ b there. inl refl;
        strictly = λ disks are. (
          λ (skipped : Some cause ≡ None). absurd (not_none cause (sym skipped)),
          strict_same plan new.slots.items s (with_item (Skipped number cause) s) apart port disks
              (subst (λ (slots : List (Slot D)). AreStrict port plan slots s disks) (sym same_slots) are),
        );
      }
    where
      apart : (b : Actor) → IsApart (cluster_of plan) s (with_item (Skipped number cause) s) b
      apart b = apart_skip (cluster_of plan) s h.sound number cause b

  -- taken, and kept out by a limit
  pub stops_stepped : (act : Act) (slot : Slot D) → Contains (actors plan.topology) a → IsWritten old.slots.items new.slots.items a slot
      → MayTake (cluster_of plan) (whole s) a (event_in s event) act → kept_of (event_in s event) ≡ 0 → is_down a (whole s) ≡ false
      → new.history ≡ old.history → SlotStands port plan (tried_if false (cluster_of plan) s a event) a slot
      → StopsAt port plan new s.own (tried_if false (cluster_of plan) s a event)
  stops_stepped act slot known written may none up same stands =
      record {
        entered = s;
        past = subst (λ (past : History). IsPastOf past s) (sym same) h.past;
        items_are = refl;
        sound = sound_tried plan false s a event act may none up (λ fails. cc) h.sound;
        actors = actors_written plan old.slots.items new.slots.items s next a slot written known apart port h.actors stands;
        ahead = inr (entry_of (cluster_of plan) s a event false, [], refl, refl);
      }
    where
      next : Situation
      next = tried_if false (cluster_of plan) s a event

      apart : AllApart plan s next a
      apart b e = apart_tried (cluster_of plan) s h.sound false a b event act e may
