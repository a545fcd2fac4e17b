-- The cluster behind a restart.
use Rattle.std.proofs.Common.{◌≡◌, ℕ, suc, ◌+◌, ◌^◌, ◌<◌, ◌≤◌, Bool, true, false, List, [], ◌∷◌, ◌++◌, None, Contains, length, Result, Ok, Err, OnOk, IfOk, IfErr, IsErrAnd, refl, sym, ◌∙◌, ap, subst, inl, inr, arith}
use Rattle.std.proofs.Math.ListN.{set}
use Rattle.std.proofs.lemmas.List.{length-set, append_assoc}
use Rattle.std.proofs.lemmas.Result.{on_ok_weaker, IfErr-weaker}
use Rattle.acc_base.specs.declared.memory.OutOfMemory.{OutOfMemory as NoMemory}
use Rattle.acc_stamp.specs.declared.actors.Actor.{Actor}
use Rattle.acc_ports.specs.declared.disk.Disk.{Ghosts}
use Rattle.acc_ports.specs.Faults.{Rose}
use Rattle.acc_message.specs.declared.entry.Event.{Event}
use Rattle.acc_message.specs.declared.entry.Event.TheVariants.{Restart}
use Rattle.acc_message.specs.declared.error.Which.{Which}
use Rattle.acc_message.specs.declared.error.Which.TheVariants.{Items}
use Rattle.acc_message.specs.declared.error.RunError.{RunError}
use Rattle.acc_message.specs.declared.error.RunError.TheVariants.{Limit}
use Rattle.acc_message.specs.declared.item.Item.{Item}
use Rattle.acc_message.specs.declared.item.Item.TheVariants.{Down as WentDown}
use Rattle.acc_message.specs.Items.{same_actor}
use Rattle.acc_payloads.specs.Stops.{some}
use Rattle.acc_payloads.specs.declared.stops.Unsent.{Unsent}
use Rattle.acc_payloads.specs.declared.stops.Restarted.{Restarted}
use Rattle.acc_payloads.specs.declared.stops.Restarted.TheVariants.{Up, Down}
use Rattle.acc_schedule.specs.Actors.{actors}
use Rattle.acc_schedule.specs.Content.{Content}
use Rattle.acc_pasts.specs.Stopped.{IsSound}
use Rattle.acc_pasts.proofs.Sound.{sound_down, sound_restarted}
use Rattle.acc_schedule_runs.specs.Situations.{Situation}
use Rattle.acc_schedule_runs.specs.Moves.{with_item, entry_of, entered, kept_if, with_kept, reopened}
use Rattle.acc_schedule_runs.proofs.StopLists.{all_earlier}
use Rattle.acc_schedule_runs.specs.Schedules.{cluster_of}
use Rattle.acc_schedule_runs.specs.Disks.{Disks, after_restart}
use Rattle.acc_schedule_runs.specs.Limits.{IsWithin, EndsAt, most_items}
use Rattle.acc_schedule_runs.specs.Fronts.{Begins}
use Rattle.acc_actors.specs.declared.slot.Slot.{Slot}
use Rattle.acc_actors.specs.declared.slot.Slot.TheVariants.{Empty}
use Rattle.acc_actors.specs.Slots.{SlotStands, IsStrictSlot, faults_in}
use Rattle.acc_actors.specs.Asked.{over_disks, IsFew, HasRestartedAt, HasRestartedStrictlyAt, HasRoom}
use Rattle.acc_actors.proofs.Apart.{apart_down, apart_reopened}
use Rattle.acc_actors.proofs.Few.{entry_other}
use Rattle.acc_actors.proofs.RestartPasts.{kept_can, downs_reopened}
use Rattle.acc_cluster.specs.declared.cluster.Cluster.{Cluster}
use Rattle.acc_history.specs.declared.history.History.{History}
use Rattle.acc_history.specs.Stands as history
use Rattle.acc_cluster.specs.Entering.{HasPlace, IsPastOf}
use Rattle.acc_cluster.specs.Stands.{slot_at, StandsFor}
use Rattle.acc_cluster.specs.Steps.{change, hit, IfLimit, LimitLeaves}
use Rattle.acc_cluster.specs.Tried.{restarted_by, HasRestarted, HitsLimitInRestart}
use Rattle.acc_cluster.specs.Restarting.{AreSendableBehind, CanComeBack, HasReopened, come_up, EndsInRestart}
use Rattle.acc_cluster.proofs.Limited.{stops_here}
use Rattle.acc_cluster.proofs.Room.{few_placed}
use Rattle.acc_cluster.proofs.RestartItems.{kept_sent, kept_sendable, limit_weaker, on_err, Enters, Ends}
use Rattle.acc_cluster.proofs.Stepped.{turned}
use Rattle.acc_cluster.proofs.Written.{IsWritten, write_is, AllApart, actors_written, strict_written, rose_written}

-- a limit ends it, and the cluster stops there
abbrev pub EndedAt : {D : Type 0} → Ghosts D → Content → Actor → ℕ → Cluster D → Cluster D → Situation → Which → ℕ → Type 0
EndedAt port plan a choice old new s which limit =
    (hits : HitsLimitInRestart port plan a choice old s (hit which limit)) × LimitLeaves port plan old new s hits.items hits.reached

room_reopened : (plan : Content) (s : Situation) (a : Actor) (kept : List Event) → HasRoom s → HasRoom (reopened (cluster_of plan) s a kept)
room_reopened plan s a kept room = subst (λ (earlier : List Item). length earlier + most_items < 2 ^ 31) (sym (all_earlier (cluster_of plan) a true s kept)) room

module _ {D : Type 0} (port : Ghosts D)
    (plan : Content) (a : Actor) (choice : ℕ) (old new : Cluster D) (s : Situation) (h : StandsFor port plan old s) (known : Contains (actors plan.topology) a) where
  -- on the disks of others nothing has changed
  others_disks : (disks : Disks) (b : Actor) → same_actor a b ≡ false → ((after_restart a disks).armed b ≡ disks.armed b) × ((after_restart a disks).passed b ≡ disks.passed b)
  others_disks disks b e = (entry_other a b None disks.armed (turned a b e), entry_other a b None disks.passed (turned a b e))

  pub has_come_up : (kept : List Unsent)
      → HasReopened port plan a choice (change old.slots.items new.slots.items) (Up kept) s
      → IsPastOf new.history (come_up (cluster_of plan) s a kept)
      → HasRestarted port plan a choice old new s
  has_come_up kept found past =
      record {
        fails = false;
        keeps = some kept;
        stands = record {
          sound = sound_restarted (cluster_of plan) (some kept) s a h.sound;
          room = room_reopened plan s a (kept_if (some kept) a s) h.room;
          past = past;
          actors = actors_written plan old.slots.items new.slots.items s next a (slot_at new.slots.items a) written known apart port h.actors found.restarted.1;
        };
        rose = λ b there.
            rose_written plan old.slots.items new.slots.items s next a (slot_at new.slots.items a) written known apart port
            (inl (downs_reopened (cluster_of plan) s a (kept_if (some kept) a s))) b;
        strictly = λ disks are.
            let told = found.strictly disks (are a known) in (
              refl,
              told.0,
              strict_written plan old.slots.items new.slots.items s next a (slot_at new.slots.items a) written known apart port disks (after_restart a disks)
                  (others_disks disks) are told.1,
            );
      }
    where
      next : Situation
      next = come_up (cluster_of plan) s a kept

      written : IsWritten old.slots.items new.slots.items a (slot_at new.slots.items a)
      written = record { here = refl; there = found.others }

      apart : AllApart plan s next a
      apart b e = apart_reopened (cluster_of plan) s h.sound a b (kept_if (some kept) a s) e (kept_can (cluster_of plan) s a (some kept) h.sound)

  pub has_stayed_down : HasReopened port plan a choice (change old.slots.items new.slots.items) Down s
      → IsPastOf new.history (with_item (WentDown a) s)
      → HasRestarted port plan a choice old new s
  has_stayed_down found past =
      record {
        fails = true;
        keeps = false;
        stands = record {
          sound = sound_down (cluster_of plan) s a h.sound;
          room = h.room;
          past = past;
          actors = actors_written plan old.slots.items new.slots.items s next a (slot_at new.slots.items a) written known apart port h.actors found.restarted;
        };
        rose = λ b there.
            rose_written plan old.slots.items new.slots.items s next a (slot_at new.slots.items a) written known apart port (inr (found.cause refl)) b;
        strictly = λ disks are. absurd (found.strictly disks (are a known));
      }
    where
      next : Situation
      next = with_item (WentDown a) s

      written : IsWritten old.slots.items new.slots.items a (slot_at new.slots.items a)
      written = record { here = refl; there = found.others }

      apart : AllApart plan s next a
      apart b e = apart_down (cluster_of plan) s h.sound a b e

  -- ---- limits

  above : (n : ℕ) → most_items ≤ n → most_items < suc n
  above n high = omega (arith, high)

  -- what comes first of it
  first_of : (events : List Event) (s : Situation) (next : Item)
      → (first : Item) × (later : List Item) × (next ∷ (with_kept (cluster_of plan) s a events).own ≡ later ++ first ∷ s.own)
  first_of [] s next = (next, [], refl)
  first_of (event ∷ events) s next =
      let entry : Item = entry_of (cluster_of plan) s a event true in
      let rest = first_of events (entered (cluster_of plan) s a event true) next in
      (entry, rest.1 ++ rest.0 ∷ [], rest.2 ∙ sym (append_assoc rest.1 (rest.0 ∷ []) (entry ∷ s.own)))

  ends_first : IsWithin s.own → most_items ≤ length s.own → (kept : List Event) → EndsAt (λ front. Begins front (reopened (cluster_of plan) s a kept).own) s.own Items most_items
  ends_first within full kept =
      let between : Situation = with_kept (cluster_of plan) s a kept in
      let found = first_of kept s (entry_of (cluster_of plan) between a (Restart (length kept)) false) in
      record { next = found.0; front = record { later = found.1; items_are = found.2 }; within = within; passed = (refl, above (length s.own) full) }

  -- no place for anything
  pub refused_first : most_items ≤ length s.own → EndedAt port plan a choice old old s Items most_items
  refused_first full = (
    record { items = s.own; reached = s; ends = inl (λ fails keeps. by fails keeps, refl) },
    record { stops = stops_here port plan old s h; rose = λ b there. inl refl },
  )
    where
      by : (fails keeps : Bool) → EndsAt (λ front. Begins front (restarted_by fails keeps (cluster_of plan) s a).own) s.own Items most_items
      by true keeps =
          record {
            next = WentDown a;
            front = record { later = []; items_are = refl };
            within = h.past.within;
            passed = (refl, above (length s.own) full);
          }
      by false keeps = ends_first h.past.within full (kept_if keeps a s)

  -- behind the crash
  pub refused_up : (kept : List Unsent)
      → HasReopened port plan a choice (change old.slots.items new.slots.items) (Up kept) s
      → (which : Which) (limit : ℕ) → EndsInRestart new.history (cluster_of plan) s a kept which limit → EndedAt port plan a choice old new s which limit
  refused_up kept found which limit ends = (
    record {
      items = ends.entered.own;
      reached = next;
      ends = inr (some kept, ends.ends, λ disks are. (found.strictly disks (are a known)).0, refl);
    },
    record {
      stops = record {
        entered = ends.entered;
        past = ends.past;
        items_are = refl;
        sound = sound_restarted (cluster_of plan) (some kept) s a h.sound;
        actors = actors_written plan old.slots.items new.slots.items s next a (slot_at new.slots.items a) written known apart port h.actors found.restarted.1;
        ahead = ends.ahead;
      };
      rose = λ b there.
          rose_written plan old.slots.items new.slots.items s next a (slot_at new.slots.items a) written known apart port
          (inl (downs_reopened (cluster_of plan) s a (kept_if (some kept) a s))) b;
    },
  )
    where
      next : Situation
      next = come_up (cluster_of plan) s a kept

      written : IsWritten old.slots.items new.slots.items a (slot_at new.slots.items a)
      written = record { here = refl; there = found.others }

      apart : AllApart plan s next a
      apart b e = apart_reopened (cluster_of plan) s h.sound a b (kept_if (some kept) a s) e (kept_can (cluster_of plan) s a (some kept) h.sound)

-- ---- the slot is taken out, and put back

module _ {D : Type 0} (port : Ghosts D)
    (plan : Content) (a : Actor) (choice : ℕ) (before now : List (Slot D)) (place : ℕ) (slot : Slot D) where
  pub has_reopened : place ≡ a.0 → place < length before → now ≡ set (set before place Empty) place slot → (s : Situation) (found : Restarted) → HasRestartedAt port plan s a found slot
      → ((disks : Disks) → IsStrictSlot port plan s disks a (slot_at before a)
      → HasRestartedStrictlyAt port plan (over_disks s disks) a choice found slot)
      → (found ≡ Down → Rose (faults_in port (slot_at before a)) (faults_in port slot))
      → HasReopened port plan a choice (change before now) found s
  has_reopened at within is s found restarted strictly cause =
      record {
        others = λ b e. put.there b e ∙ taken.there b e;
        restarted = subst (λ x. HasRestartedAt port plan s a found x) (sym put.here) restarted;
        strictly = λ disks are. subst (λ x. HasRestartedStrictlyAt port plan (over_disks s disks) a choice found x) (sym put.here) (strictly disks are);
        cause = λ down. subst (λ x. Rose (faults_in port (slot_at before a)) (faults_in port x)) (sym put.here) (cause down);
      }
    where
      taken : IsWritten before (set before place Empty) a Empty
      taken = write_is before (set before place Empty) a place Empty at within refl

      put : IsWritten (set before place Empty) now a slot
      put = write_is (set before place Empty) now a place slot at (subst (λ n. place < n) (sym (length-set before place Empty)) within) is

-- ---- from what the calls ensure

module _ {D : Type 0} (port : Ghosts D)
    (plan : Content) (a : Actor) (choice : ℕ) (old : Cluster D) (known : Contains (actors plan.topology) a) where
  abbrev Ended : Cluster D → Which → ℕ → Type 0
  Ended new which limit = (s : Situation) → StandsFor port plan old s → EndedAt port plan a choice old new s which limit

  -- no place for anything
  pub place_ends : {T : Type 0} (r : Result T RunError) (e : RunError) → IsErrAnd r (λ y. y ≡ e)
      → (e ≡ Limit Items most_items) × ((s : Situation) → history.StandsFor old.history s → most_items ≤ length s.own) → IfErr r (IfLimit (Ended old))
  place_ends r e is told =
      on_err r e (IfLimit (Ended old)) is
      (subst (IfLimit (Ended old)) (sym told.0)
      (λ s h. refused_first port plan a choice old old s h known (told.1 s h.past.stands)))

  module _ (middle : Cluster D) (same : middle.history ≡ old.history) (place : (s : Situation) → history.StandsFor old.history s → HasPlace s) (found : Restarted)
      (opened : (s : Situation) → StandsFor port plan old s → HasPlace s
      → HasReopened port plan a choice (change old.slots.items middle.slots.items) found s) where
    abbrev with_history : History → Cluster D
    with_history h = record { alloc = middle.alloc; history = h; slots = middle.slots }

    opened_as : (other : Restarted) → found ≡ other → (s : Situation) → StandsFor port plan old s
        → HasReopened port plan a choice (change old.slots.items middle.slots.items) other s
    opened_as other is s h =
        subst (λ x. HasReopened port plan a choice (change old.slots.items middle.slots.items) x s) is (opened s h (place s h.past.stands))

    past_middle : (s : Situation) → StandsFor port plan old s → IsPastOf middle.history s
    past_middle s h = subst (λ x. IsPastOf x s) (sym same) h.past

    pub down_enters : found ≡ Down → {T : Type 0} (r : Result T RunError) (now : History)
        → OnOk r ((s : Situation) → IsPastOf middle.history s → HasPlace s → IsPastOf now (with_item (WentDown a) s))
        → OnOk r ((s : Situation) → StandsFor port plan old s
        → HasRestarted port plan a choice old (with_history now) s)
    down_enters is r now =
        on_ok_weaker r
        (λ told s h.
        has_stayed_down port plan a choice old (with_history now) s h known (opened_as Down is s h)
        (told s (past_middle s h) (place s h.past.stands)))

    module _ (kept : List Unsent) (is : found ≡ Up kept) where
      abbrev reopened_up : (s : Situation) → StandsFor port plan old s
          → HasReopened port plan a choice (change old.slots.items middle.slots.items) (Up kept) s
      reopened_up s h = opened_as (Up kept) is s h

      pub up_back : (s : Situation) → StandsFor port plan old s → CanComeBack middle.history a kept s × AreSendableBehind a kept s
      up_back s h = (
        record { past = past_middle s h; place = place s h.past.stands; taken = kept_sent (cluster_of plan) s a h.sound kept (reopened_up s h).restarted.0 },
        kept_sendable (cluster_of plan) s a h.sound kept (reopened_up s h).restarted.0 h.room,
      )

      pub up_enters : {T : Type 0} (r : Result T RunError) (now : History) → OnOk r (Enters middle.history now a kept)
          → OnOk r ((s : Situation) → StandsFor port plan old s
          → HasRestarted port plan a choice old (with_history now) s)
      up_enters r now =
          on_ok_weaker r
          (λ told s h.
          has_come_up port plan a choice old (with_history now) s h known kept (reopened_up s h)
          (told (cluster_of plan) s h.sound (past_middle s h) (place s h.past.stands) (reopened_up s h).restarted.0))

      pub up_ends : {T : Type 0} (r : Result T RunError) (now : History) → IfErr r (IfLimit (Ends middle.history now a kept)) → IfErr r (IfLimit (Ended (with_history now)))
      up_ends r now =
          IfErr-weaker r (IfLimit (Ends middle.history now a kept)) (IfLimit (Ended (with_history now)))
          (λ e. limit_weaker (Ends middle.history now a kept) (Ended (with_history now)) e
          (λ which limit told. λ s h.
          refused_up port plan a choice old (with_history now) s h known kept (reopened_up s h) which limit
          (told (cluster_of plan) s h.sound (past_middle s h) (place s h.past.stands) (reopened_up s h).restarted.0)))

module _ {D : Type 0} (port : Ghosts D)
    (plan : Content) (a : Actor) (choice : ℕ) (old : Cluster D) (known : Contains (actors plan.topology) a) (left taken slot : Slot D) where
  pub slot_reopened : (r : Result Restarted NoMemory) → a.0 < length old.slots.items → left ≡ Empty → taken ≡ slot_at old.slots.items a
      → IfOk r (λ found. (s : Situation) → IsSound (cluster_of plan) s → IsFew s → SlotStands port plan s a taken → HasRestartedAt port plan s a found slot)
      → IfOk r (λ found. (s : Situation) (disks : Disks) → IsSound (cluster_of plan) s → SlotStands port plan s a taken
      → IsStrictSlot port plan s disks a taken → HasRestartedStrictlyAt port plan (over_disks s disks) a choice found slot)
      → (r ≡ Ok Down → Rose (faults_in port taken) (faults_in port slot))
      → IfOk r (λ found. (s : Situation) → StandsFor port plan old s → HasPlace s
      → HasReopened port plan a choice (change old.slots.items (set (set old.slots.items a.0 left) a.0 slot)) found s)
  slot_reopened (Err e) within left_is taken_is ok strictly cause = tt
  slot_reopened (Ok found) within left_is taken_is ok strictly cause = λ s h place.
      let stands : SlotStands port plan s a taken = subst (λ (x : Slot D). SlotStands port plan s a x) (sym taken_is) (h.actors.each a known) in
      has_reopened port plan a choice old.slots.items (set (set old.slots.items a.0 left) a.0 slot) a.0 slot refl within
      (ap (λ (x : Slot D). set (set old.slots.items a.0 x) a.0 slot) left_is) s found (ok s h.sound (few_placed s h.room place) stands)
      (λ disks are. strictly s disks h.sound stands (subst (λ (x : Slot D). IsStrictSlot port plan s disks a x) (sym taken_is) are))
      (λ down. subst (λ (x : Slot D). Rose (faults_in port x) (faults_in port slot)) taken_is (cause (ap Ok down)))
