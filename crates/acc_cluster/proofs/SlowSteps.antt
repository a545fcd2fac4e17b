-- A slow in the cluster: its home gives the fast path up, or refuses.
use Rattle.std.proofs.Common.{◌≡◌, ℕ, ◌<◌, Bool, true, false, None, Some, Result, OnOk, IfErr, Contains, is_none, length, unwrap_or, refl, sym, ◌∙◌, ap, subst, inl, inr, ⊎_elim}
use Rattle.std.specs.List.{slice_index_or}
use Rattle.std.proofs.Math.ListN.{set}
use Rattle.acc_stamp.specs.declared.actors.Actor.{Actor}
use Rattle.acc_stamp.specs.declared.stamps.TxnId.{TxnId}
use Rattle.acc_stamp.specs.Actor.{actor_of}
use Rattle.acc_ports.specs.declared.disk.Disk.{Ghosts}
use Rattle.acc_ports.specs.Faults.{Rose}
use Rattle.acc_message.specs.declared.entry.Emitted.{Emitted}
use Rattle.acc_message.specs.declared.entry.Event.{Event}
use Rattle.acc_message.specs.declared.entry.Event.TheVariants.{Slow as SlowEvent}
use Rattle.acc_message.specs.declared.error.RunError.{RunError}
use Rattle.acc_message.specs.declared.item.Skip.{Skip}
use Rattle.acc_message.specs.Items.{same_actor}
use Rattle.acc_message.specs.NodeRules.{Slows}
use Rattle.acc_message.specs.Run.{Cluster as RunCluster, IsHomeOf, is_down}
use Rattle.acc_actor_laws.proofs.Standing.{not_none}
use Rattle.acc_run_laws.specs.Asks.{slow_skip, home_of_txn}
use Rattle.acc_safety.proofs.Bridge.{same}
use Rattle.acc_safety.proofs.PlaceOrder.{IsIn-Contains}
use Rattle.acc_run_laws.proofs.Layouts.{at_home}
use Rattle.acc_run_laws.specs.Sends.{AreSendable}
use Rattle.acc_schedule.specs.Actors.{actors}
use Rattle.acc_schedule.specs.Content.{Content}
use Rattle.acc_schedule.specs.Plan.{IsPlan}
use Rattle.acc_pasts.specs.Entries.{MayTake}
use Rattle.acc_pasts.proofs.Standing.{slow_may, slow_has_id}
use Rattle.acc_pasts.proofs.Sound.{sound_standing}
use Rattle.acc_schedule_runs.specs.Situations.{Situation, whole}
use Rattle.acc_schedule_runs.specs.Moves.{tried_if}
use Rattle.acc_schedule_runs.specs.Schedules.{cluster_of}
use Rattle.acc_schedule_runs.specs.Disks.{Disks}
use Rattle.acc_schedule_runs.specs.Limits.{EndsAt}
use Rattle.acc_history.specs.declared.history.History.{History}
use Rattle.acc_history.specs.Stands.{EventTakesSent}
use Rattle.acc_actors.specs.declared.slot.Slot.{Slot}
use Rattle.acc_actors.specs.declared.slot.Slot.TheVariants.{Empty}
use Rattle.acc_actors.specs.Slots.{SlotStands, IsStrictSlot, faults_in}
use Rattle.acc_actors.specs.Asked.{over_disks, IsEmitted, HasTried, HasTriedStrictly, IsHomeUp, skips_slow}
use Rattle.acc_actors.proofs.Apart.{apart_itself}
use Rattle.acc_cluster.specs.declared.cluster.Cluster.{Cluster}
use Rattle.acc_cluster.specs.Entering.{HasPlace, IsPastOf}
use Rattle.acc_cluster.specs.Stands.{slot_at, faults_at, StandsFor, AreStrict}
use Rattle.acc_cluster.specs.Steps.{hit, IfLimit}
use Rattle.acc_cluster.specs.Tried.{scheduled, HasStepped, HitsLimit}
use Rattle.acc_cluster.proofs.Going.{there_is}
use Rattle.acc_cluster.proofs.Counts.{same_most}
use Rattle.acc_cluster.proofs.Limited.{both_limits}
use Rattle.acc_cluster.proofs.Stepped.{has_stepped, stops_stepped}
use Rattle.acc_cluster.proofs.Hits.{not_full}
use Rattle.acc_cluster.proofs.Taken.{Goes, on_ok, if_limit, within_any, sendable_at, taken_counted}
use Rattle.acc_cluster.proofs.Written.{IsWritten, AllApart, write_is, actors_written, strict_written}

-- the home of a transaction of the plan
pub home_of_plan : (plan : Content) → IsPlan plan → (txn : ℕ) → txn < length plan.names → (a : Actor) → a ≡ home_of_txn (cluster_of plan) txn → IsHomeOf (cluster_of plan) txn a
home_of_plan plan valid txn less a is =
    let home = there_is plan.homes txn (subst (λ n. txn < n) (sym valid.homes_as_many) less) in
    (home.0, home.1, is ∙ ap (λ o. actor_of (unwrap_or o 0) 0) home.1)

module _ {D : Type 0} (port : Ghosts D)
    (plan : Content) (old : Cluster D) (a : Actor) (txn : ℕ) (slot : Slot D) (here : slot ≡ slice_index_or old.slots.items a.0 slot) (within : a.0 < length old.slots.items)
    (home : IsHomeOf (cluster_of plan) txn a) where
  slot_is : slot ≡ slot_at old.slots.items a
  slot_is = here ∙ within_any old.slots.items a.0 slot Empty within

  known : (s : Situation) → StandsFor port plan old s → Contains (actors plan.topology) a
  known s h = IsIn-Contains a (actors plan.topology) (at_home (cluster_of plan) h.sound.valid txn a home)

  -- it is up
  pub home_up : (s : Situation) → StandsFor port plan old s → is_down a (whole s) ≡ false → IsHomeUp port plan s a txn slot
  home_up s h up =
      record {
        sound = h.sound;
        stands = subst (λ (x : Slot D). SlotStands port plan s a x) (sym slot_is) (h.actors.each a (known s h));
        up = up;
        home = home;
      }

  -- what isn't passed over may be taken next
  goes_slow : (s : Situation) → StandsFor port plan old s → is_down a (whole s) ≡ false → skips_slow plan s txn ≡ None → (x : TxnId) × Goes plan s a (SlowEvent txn) (Slows x)
  goes_slow s h up none =
      let found = slow_has_id (cluster_of plan) (whole s) txn none in
      let not_skipped : slow_skip (cluster_of plan) (whole s) txn (Some found.0) ≡ None = sym (ap (slow_skip (cluster_of plan) (whole s) txn) found.1) ∙ none in
      let may : MayTake (cluster_of plan) (whole s) (home_of_txn (cluster_of plan) txn) (SlowEvent txn) (Slows found.0) =
      slow_may (cluster_of plan) (whole s) txn found.0 (sound_standing (cluster_of plan) s h.sound).stands found.1 not_skipped in (
        found.0,
        record {
          known = known s h;
          may =
              subst (λ (b : Actor). MayTake (cluster_of plan) (whole s) b (SlowEvent txn) (Slows found.0))
              (ap (λ o. actor_of (unwrap_or o 0) 0) home.1 ∙ sym home.2) may;
          none = refl;
          up = up;
          sent = tt;
        },
      )

  pub slowed_sendable : (new_slot : Slot D) (emitted : Emitted)
      → ((s : Situation) → IsHomeUp port plan s a txn slot → (skips_slow plan s txn ≡ None) × HasTried port plan s a (SlowEvent txn) new_slot (Some emitted))
      → (s : Situation) → StandsFor port plan old s → is_down a (whole s) ≡ false → AreSendable emitted.out
  slowed_sendable new_slot emitted ok s h up =
      let answer = ok s (home_up s h up) in
      let go = goes_slow s h up answer.0 in
      sendable_at port plan old a (SlowEvent txn) (Slows go.0) slot here within s h go.1 (Some emitted) answer.1.emitted

  module _ (new_slot : Slot D) (number : ℕ) (r : Result (Unit {0}) RunError) where
    -- ---- it gives the fast path up

    module _ (emitted : Emitted)
        (ok : (s : Situation) → IsHomeUp port plan s a txn slot → (skips_slow plan s txn ≡ None) × HasTried port plan s a (SlowEvent txn) new_slot (Some emitted)) where
      pub slowed_ok : (new : Cluster D) → new.slots.items ≡ set old.slots.items a.0 new_slot
          → ((s : Situation) (disks : Disks) → IsHomeUp port plan s a txn slot → IsStrictSlot port plan s disks a slot
          → HasTriedStrictly port plan (over_disks s disks) a (SlowEvent txn) new_slot (Some emitted))
          → OnOk r ((cluster : RunCluster) (s : Situation) → IsPastOf old.history s → HasPlace s → EventTakesSent s (SlowEvent txn) → IsEmitted cluster s a (SlowEvent txn) (Some emitted)
          → IsPastOf new.history (tried_if (is_none (Some emitted)) cluster s a (SlowEvent txn)))
          → OnOk r ((s : Situation) → StandsFor port plan old s → HasPlace s → is_down a (whole s) ≡ false
          → HasStepped port plan (scheduled (skips_slow plan s txn) number a (SlowEvent txn)) old new s)
      slowed_ok new set_is strictly = on_ok _ _ r (λ enter s h place up.
          let up_there : IsHomeUp port plan s a txn slot = home_up s h up in
          let answer = ok s up_there in
          let go = goes_slow s h up answer.0 in
          subst (λ skip. HasStepped port plan (scheduled skip number a (SlowEvent txn)) old new s) (sym answer.0)
          (has_stepped port plan old new s number a (SlowEvent txn) h (Slows go.0) new_slot (Some emitted) go.1.known
          (write_is old.slots.items new.slots.items a a.0 new_slot refl within set_is) go.1.may go.1.none go.1.up answer.1
          (enter (cluster_of plan) s h.past place tt answer.1.emitted)
          (λ none. absurd (not_none emitted (sym none)))
          (λ disks are. strictly s disks up_there (subst (λ (x : Slot D). IsStrictSlot port plan s disks a x) (sym slot_is) are))))

      pub slowed_limit : (new : Cluster D) → new.slots.items ≡ set old.slots.items a.0 new_slot → faults_in port new_slot ≡ faults_in port slot
          → IfErr r (IfLimit (λ which limit. new.history ≡ old.history))
          → IfErr r (IfLimit (λ which limit. (cluster : RunCluster) (s : Situation) → IsPastOf old.history s → HasPlace s → IsEmitted cluster s a (SlowEvent txn) (Some emitted)
          → (is_none (Some emitted) ≡ false) × EndsAt (λ front. front ≡ (tried_if false cluster s a (SlowEvent txn)).own) s.own which limit))
          → IfErr r (IfLimit (λ which limit. (s : Situation) → StandsFor port plan old s → HasPlace s → is_down a (whole s) ≡ false
          → HitsLimit port plan (scheduled (skips_slow plan s txn) number a (SlowEvent txn)) old new s (hit which limit)))
      slowed_limit new set_is same_count same entered = if_limit _ _ r (λ which limit told s h place up.
          let answer = ok s (home_up s h up) in
          let go = goes_slow s h up answer.0 in
          let ends = told.1 (cluster_of plan) s h.past place answer.1.emitted in
          subst (λ skip. HitsLimit port plan (scheduled skip number a (SlowEvent txn)) old new s (hit which limit)) (sym answer.0)
          (record {
            reached = tried_if false (cluster_of plan) s a (SlowEvent txn);
            ends = inr (ends.1, λ disks are skipped. refl, refl);
            first = λ is. absurd (not_full _ s which limit ends.1 place is);
            stops =
                stops_stepped port plan old new s number a (SlowEvent txn) h (Slows go.0) new_slot go.1.known
                (write_is old.slots.items new.slots.items a a.0 new_slot refl within set_is) go.1.may go.1.none go.1.up told.0 answer.1.stands;
            none_fell = λ b there. taken_counted port plan old a (SlowEvent txn) (Slows go.0) slot here within new.slots.items new_slot set_is (same_most (sym same_count)) b;
          })) (both_limits _ _ r same entered)

    -- ---- it refuses

    module _ (between : Cluster D) (set_is : between.slots.items ≡ set old.slots.items a.0 new_slot) (same_history : between.history ≡ old.history)
        (as_before : (s : Situation) → IsHomeUp port plan s a txn slot → SlotStands port plan s a new_slot) (cause : Skip)
        (refused : (s : Situation) → IsHomeUp port plan s a txn slot → skips_slow plan s txn ≡ Some cause) where
      written : IsWritten old.slots.items between.slots.items a new_slot
      written = write_is old.slots.items between.slots.items a a.0 new_slot refl within set_is

      apart : (s : Situation) → AllApart plan s s a
      apart s b e = apart_itself (cluster_of plan) s b

      still_stands : (s : Situation) → StandsFor port plan old s → is_down a (whole s) ≡ false → StandsFor port plan between s
      still_stands s h up =
          record {
            sound = h.sound;
            room = h.room;
            past = subst (λ (x : History). IsPastOf x s) (sym same_history) h.past;
            actors = actors_written plan old.slots.items between.slots.items s s a new_slot written (known s h) (apart s) port h.actors (as_before s (home_up s h up));
          }

      still_strict : (s : Situation) → StandsFor port plan old s → is_down a (whole s) ≡ false
          → ((disks : Disks) → IsHomeUp port plan s a txn slot → IsStrictSlot port plan s disks a slot → IsStrictSlot port plan s disks a new_slot)
          → (disks : Disks) → AreStrict port plan old.slots.items s disks → AreStrict port plan between.slots.items s disks
      still_strict s h up strictly disks are =
          strict_written plan old.slots.items between.slots.items s s a new_slot written (known s h) (apart s) port disks disks (λ b e. (refl, refl)) are
          (strictly disks (home_up s h up) (subst (λ (x : Slot D). IsStrictSlot port plan s disks a x) (sym slot_is) (are a (known s h))))

      same_faults : faults_in port new_slot ≡ faults_in port slot → (b : Actor) → faults_at port between b ≡ faults_at port old b
      same_faults is b = by (same_actor a b) refl
        where
          by : (t : Bool) → same_actor a b ≡ t → faults_at port between b ≡ faults_at port old b
          by true e =
              subst (λ (c : Actor). faults_at port between c ≡ faults_at port old c) (same a b e)
              (ap (faults_in port) written.here ∙ is ∙ ap (faults_in port) slot_is)
          by false e = ap (faults_in port) (written.there b e)

      pub refused_ok : (new : Cluster D) → faults_in port new_slot ≡ faults_in port slot
          → ((s : Situation) (disks : Disks) → IsHomeUp port plan s a txn slot → IsStrictSlot port plan s disks a slot → IsStrictSlot port plan s disks a new_slot)
          → OnOk r ((s : Situation) (b : Actor) (event : Event) → StandsFor port plan between s → HasPlace s
          → HasStepped port plan (scheduled (Some cause) number b event) between new s)
          → OnOk r ((s : Situation) → StandsFor port plan old s → HasPlace s → is_down a (whole s) ≡ false
          → HasStepped port plan (scheduled (skips_slow plan s txn) number a (SlowEvent txn)) old new s)
      refused_ok new same_count strictly = on_ok _ _ r (λ passed s h place up.
          let step : HasStepped port plan (scheduled (Some cause) number a (SlowEvent txn)) between new s =
          passed s a (SlowEvent txn) (still_stands s h up) place in
          subst (λ skip. HasStepped port plan (scheduled skip number a (SlowEvent txn)) old new s) (sym (refused s (home_up s h up)))
          (record {
            fails = step.fails;
            may = step.may;
            stands = step.stands;
            rose = λ b there. ⊎_elim (λ stays. inl stays) (λ rose. inr (subst (λ n. Rose n (faults_at port new b)) (same_faults same_count b) rose)) (step.rose b there);
            strictly = λ disks are. step.strictly disks (still_strict s h up (λ some_disks. strictly s some_disks) disks are);
          }))

      pub refused_limit : (new : Cluster D) → IfErr r (IfLimit (λ which limit. (s : Situation) → StandsFor port plan between s → HasPlace s → ⊥))
          → IfErr r (IfLimit (λ which limit. (s : Situation) → StandsFor port plan old s → HasPlace s → is_down a (whole s) ≡ false
          → HitsLimit port plan (scheduled (skips_slow plan s txn) number a (SlowEvent txn)) old new s (hit which limit)))
      refused_limit new = if_limit _ _ r (λ which limit never s h place up. absurd (never s (still_stands s h up) place))
