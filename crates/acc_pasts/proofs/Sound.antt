-- Each move keeps the whole past a run, and the stopped steps such as can still be entered, one after another.
use Rattle.std.proofs.Common.{◌≡◌, ◌≢◌, ℕ, suc, Bool, true, false, not, List, [], ◌∷◌, ◌++◌, length, refl, sym, ◌∙◌, ap, subst}
use Rattle.std.specs.List.{AllByRecursion}
use Rattle.std.proofs.lemmas.Bool.{true≢false}
use Rattle.acc_stamp.specs.declared.actors.Actor.{Actor}
use Rattle.acc_stamp.proofs.Rising.{each_weaker}
use Rattle.acc_message.specs.declared.entry.Emitted.{Emitted}
use Rattle.acc_message.specs.declared.entry.Entry.{Entry}
use Rattle.acc_message.specs.declared.entry.Event.{Event}
use Rattle.acc_message.specs.declared.entry.Event.TheVariants.{Restart as RestartEvent}
use Rattle.acc_message.specs.declared.item.Skip.{Skip}
use Rattle.acc_message.specs.declared.item.Item.{Item}
use Rattle.acc_message.specs.declared.item.Item.TheVariants.{Step, Skipped, Down}
use Rattle.acc_message.specs.Items.{same_actor, sent_of}
use Rattle.acc_message.specs.Coordinator.{silence}
use Rattle.acc_message.specs.NodeRules.{Act, Restarts}
use Rattle.acc_message.specs.Run.{Cluster, act_of, emits, Stands, kept_of, is_down, IsRun}
use Rattle.acc_safety.specs.Valid.{IsValidCluster, IsStanding}
use Rattle.acc_safety.proofs.Bridge.{same}
use Rattle.acc_run_laws.specs.Asks.{emits_if}
use Rattle.acc_run_laws.specs.AskLaws.{IsLostOf, with_entries, AreLostOf, restart_at}
use Rattle.acc_run_laws.specs.Sends.{HasFewBodies}
use Rattle.acc_run_laws.proofs.LostFacts.{skip_is_run, down_is_run, restart_is_run}
use Rattle.acc_payloads.specs.Items.{payload_by}
use Rattle.acc_schedule_runs.specs.Situations.{Situation, opened, raised, whole, stopped_at}
use Rattle.acc_schedule_runs.specs.Moves.{with_item, event_in, entry_of, entered, entered_all, is_journalled, stopped_by, kept_if, with_kept, reopened}
use Rattle.acc_schedule_runs.proofs.StopLists.{without_other, without_own, by_without, by_stops}
use Rattle.acc_pasts.specs.Entries.{entering, MayTake}
use Rattle.acc_pasts.specs.Pasts.{IsUntouched, DidMore}
use Rattle.acc_pasts.specs.Stopped.{is_other, CanGoOn, AreDifferent, CanAllGoOn, IsSound}
use Rattle.acc_pasts.proofs.Pasts.{nothing_new, untouched, untouched_on, did_more}
use Rattle.acc_pasts.proofs.Standing.{entry_stands, entry_run, restart_may}
use Rattle.acc_pasts.proofs.Replayed.{restart_emits}
use Rattle.acc_pasts.proofs.Situations.{journalled_in, different_in}
use Rattle.acc_pasts.proofs.Stops.{still, gone_down, behind_lost, comes_back}

module _ (cluster : Cluster) where
  pub sound_standing : (s : Situation) → IsSound cluster s → IsStanding cluster (whole s)
  sound_standing s h = record { valid = h.valid; stands = h.run.stands }

  pub sound_opened : (earlier : List Item) → IsValidCluster cluster → HasFewBodies cluster → IsRun cluster earlier → IsSound cluster (opened earlier)
  sound_opened earlier valid few_bodies run = record { valid = valid; few_bodies = few_bodies; run = run; stopped = λ a. (tt, tt) }

  -- ---- one item more

  -- of no actor that has a stopped step
  sound_item : (s : Situation) (item : Item) → IsRun cluster (whole (with_item item s))
      → ((a : Actor) → is_down a (whole s) ≡ true → is_other a (raised (length (sent_of s.earlier)) item) ≡ true) → IsSound cluster s
      → IsSound cluster (with_item item s)
  sound_item s item run other h =
      record {
        valid = h.valid;
        few_bodies = h.few_bodies;
        run = run;
        stopped = λ a. (
          each_weaker _ (λ (event : Event). CanGoOn cluster (whole (with_item item s)) a (event_in s event)) (stopped_at a s.stopped)
              (λ event can. still cluster (whole s) (raised (length (sent_of s.earlier)) item) a (event_in s event) run.stands.0 (other a can.down) can)
              (h.stopped a).0,
          (h.stopped a).1,
        );
      }

  pub sound_skip : (s : Situation) (number : ℕ) (cause : Skip) → IsSound cluster s → IsSound cluster (with_item (Skipped number cause) s)
  sound_skip s number cause h = sound_item s (Skipped number cause) (skip_is_run cluster (whole s) number cause h.run) (λ a down. refl) h

  -- an actor that is up, or down already
  pub sound_down : (s : Situation) (a : Actor) → IsSound cluster s → IsSound cluster (with_item (Down a) s)
  sound_down s a h = sound_item s (Down a) (down_is_run cluster (whole s) a h.run) (λ b down. refl) h

  pub sound_dropped : (s : Situation) (message : ℕ) → IsSound cluster s
      → IsSound cluster (record { earlier = s.earlier; own = s.own; dropped = message ∷ s.dropped; stopped = s.stopped })
  sound_dropped s message h = record { valid = h.valid; few_bodies = h.few_bodies; run = h.run; stopped = h.stopped }

  -- another actor is up
  up_is_other : (items : List Item) (a b : Actor) → is_down a items ≡ false → is_down b items ≡ true → not (same_actor a b) ≡ true
  up_is_other items a b up down = by (same_actor a b) refl
    where
      by : (here : Bool) → same_actor a b ≡ here → not here ≡ true
      by true is = absurd (true≢false (sym down ∙ sym (ap (λ c. is_down c items) (same a b is)) ∙ up))
      by false is = refl

  pub sound_entered : (s : Situation) (a : Actor) (event : Event) (act : Act) → MayTake cluster (whole s) a (event_in s event) act
      → kept_of (event_in s event) ≡ 0 → is_down a (whole s) ≡ false → IsSound cluster s → IsSound cluster (entered cluster s a event false)
  sound_entered s a event act may none up h =
      sound_item s (entry_of cluster s a event false) (entry_run cluster (whole s) a (event_in s event) act may none up h.run)
      (λ b down. up_is_other (whole s) a b up down) h

  -- a fault stops the steps of one append
  pub sound_stopped : (s : Situation) (a : Actor) (events : List Event)
      → AllByRecursion (λ (event : Event). (act : Act) × MayTake cluster (whole s) a (event_in s event) act × (is_journalled a event ≡ true)) events
      → AreDifferent events → IsSound cluster s → IsSound cluster (stopped_by a events s)
  sound_stopped s a events may different h =
      record { valid = h.valid; few_bodies = h.few_bodies; run = down.run; stopped = λ b. by_stops (CanAllGoOn cluster (with_item (Down a) s) b) a b s.stopped events (own b) (λ is. down.stopped b) }
    where
      down : IsSound cluster (with_item (Down a) s)
      down = sound_down s a h

      own : (b : Actor) → same_actor a b ≡ true → CanAllGoOn cluster (with_item (Down a) s) b events
      own b is =
          subst (λ c. CanAllGoOn cluster (with_item (Down a) s) c events) (same a b is) (
            each_weaker _ (λ (event : Event). CanGoOn cluster (Down a ∷ whole s) a (event_in s event)) events
                (λ event can. gone_down cluster (whole s) a (event_in s event) can.0 (journalled_in s a event ∙ can.2) can.1) may,
            different,
          )

  -- one step
  pub sound_stopped_one : (s : Situation) (a : Actor) (event : Event) (act : Act) → MayTake cluster (whole s) a (event_in s event) act
      → is_journalled a event ≡ true → IsSound cluster s → IsSound cluster (stopped_by a (event ∷ []) s)
  sound_stopped_one s a event act may journalled h = sound_stopped s a (event ∷ []) ((act, may, journalled), tt) (tt, tt) h

  -- ---- what comes back

  -- an item of no such actor
  pub stays : (s : Situation) (item : Item) (b : Actor) (events : List Event) → Stands cluster (whole s) (raised (length (sent_of s.earlier)) item)
      → is_other b (raised (length (sent_of s.earlier)) item) ≡ true → CanAllGoOn cluster s b events → CanAllGoOn cluster (with_item item s) b events
  stays s item b events stands other h = (
    each_weaker _ (λ (event : Event). CanGoOn cluster (whole (with_item item s)) b (event_in s event)) events
        (λ event can. still cluster (whole s) (raised (length (sent_of s.earlier)) item) b (event_in s event) stands other can) h.0,
    h.1,
  )

  -- after the first one, which is lost, the others still can go on
  pub others_go_on : (s : Situation) (a : Actor) (event : Event) (events : List Event) → CanAllGoOn cluster s a (event ∷ events)
      → CanAllGoOn cluster (entered cluster s a event true) a events
  others_go_on s a event events h = (each events h.0.1 h.1.0, h.1.1)
    where
      each : (events : List Event) → AllByRecursion (λ (other : Event). CanGoOn cluster (whole s) a (event_in s other)) events
          → AllByRecursion (λ (other : Event). event ≢ other) events
          → AllByRecursion (λ (other : Event). CanGoOn cluster (whole (entered cluster s a event true)) a (event_in s other)) events
      each [] can differ = tt
      each (other ∷ events) can differ = (
        behind_lost cluster (whole s) a (event_in s event) (event_in s other) (different_in s event other differ.0) can.0,
        each events can.1 differ.1,
      )

  pub goes_on : (s : Situation) (a : Actor) (event : Event) (events : List Event) → CanAllGoOn cluster s a (event ∷ events)
      → CanGoOn cluster (whole s) a (event_in s event) × CanAllGoOn cluster (entered cluster s a event true) a events
  goes_on s a event events h = (h.0.0, others_go_on s a event events h)

  -- the entries that come back, each lost, the newest first
  record ComeBack (s : Situation) (a : Actor) (events : List Event) : Type 0 where
    entries : List Entry
    lost : AreLostOf cluster a (whole s) entries
    whole_is : with_entries entries (whole s) ≡ whole (with_kept cluster s a events)
    as_many : length entries ≡ length events

  come_back : (s : Situation) (a : Actor) (events : List Event) → CanAllGoOn cluster s a events → ComeBack s a events
  come_back s a [] h = record { entries = []; lost = tt; whole_is = refl; as_many = refl }
  come_back s a (event ∷ events) h = with_first (come_back (entered cluster s a event true) a events (others_go_on s a event events h))
    where
      first : Entry
      first =
          record {
            actor = a;
            event = event_in s event;
            emitted = emits_if cluster (whole s) a (act_of cluster (whole s) (event_in s event));
            lost = true;
          }

      behind : (entries : List Entry) → with_entries (entries ++ first ∷ []) (whole s) ≡ with_entries entries (Step first ∷ whole s)
      behind [] = refl
      behind (e ∷ entries) = ap (λ (items : List Item). Step e ∷ items) (behind entries)

      lost_behind : (entries : List Entry) → AreLostOf cluster a (Step first ∷ whole s) entries → AreLostOf cluster a (whole s) (entries ++ first ∷ [])
      lost_behind [] lost = (comes_back cluster (whole s) a (event_in s event) h.0.0, tt)
      lost_behind (e ∷ entries) lost = (
        subst (λ (items : List Item). IsLostOf cluster a items e) (sym (behind entries)) lost.0,
        lost_behind entries lost.1,
      )

      length-push : (entries : List Entry) → length (entries ++ first ∷ []) ≡ suc (length entries)
      length-push [] = refl
      length-push (e ∷ entries) = ap suc (length-push entries)

      with_first : ComeBack (entered cluster s a event true) a events → ComeBack s a (event ∷ events)
      with_first rest =
          record {
            entries = rest.entries ++ first ∷ [];
            lost = lost_behind rest.entries rest.lost;
            whole_is = behind rest.entries ∙ rest.whole_is;
            as_many = length-push rest.entries ∙ ap suc rest.as_many;
          }

  -- the steps of another actor, after what comes back
  pub stay_behind : (s : Situation) (a b : Actor) (events others : List Event) → same_actor a b ≡ false → CanAllGoOn cluster s a events
      → CanAllGoOn cluster s b others → CanAllGoOn cluster (with_kept cluster s a events) b others
  stay_behind s a b [] others apart h k = k
  stay_behind s a b (event ∷ events) others apart h k =
      let can : CanGoOn cluster (whole s) a (event_in s event) = h.0.0 in
      stay_behind (entered cluster s a event true) a b events others apart (others_go_on s a event events h)
      (stays s (entry_of cluster s a event true) b others (entry_stands cluster (whole s) a (event_in s event) can.act can.may true) (ap not apart) k)

  -- ---- restarts

  -- with steps that were stopped
  pub sound_up : (s : Situation) (a : Actor) (kept : List Event) → CanAllGoOn cluster s a kept → IsSound cluster s → IsSound cluster (reopened cluster s a kept)
  sound_up s a kept can h =
      record {
        valid = h.valid;
        few_bodies = h.few_bodies;
        run = run;
        stopped = λ b. by_without (CanAllGoOn cluster (entered cluster between a (RestartEvent (length kept)) false) b) a b s.stopped (λ is. (tt, tt)) (later b);
      }
    where
      between : Situation
      between = with_kept cluster s a kept

      back : ComeBack s a kept
      back = come_back s a kept can

      run : IsRun cluster (whole (reopened cluster s a kept))
      run =
          subst (λ n. IsRun cluster (restart_at cluster (whole between) a n ∷ whole between)) back.as_many
          (subst (λ (items : List Item). IsRun cluster (restart_at cluster items a (length back.entries) ∷ items)) back.whole_is
          (restart_is_run cluster a (whole s) back.entries h.run back.lost))

      later : (b : Actor) → same_actor a b ≡ false
          → CanAllGoOn cluster (entered cluster between a (RestartEvent (length kept)) false) b (stopped_at b s.stopped)
      later b apart =
          stays between (entry_of cluster between a (RestartEvent (length kept)) false) b (stopped_at b s.stopped)
          (entry_stands cluster (whole between) a (RestartEvent (length kept)) Restarts (restart_may cluster (whole between) a (length kept)) false)
          (ap not apart) (stay_behind s a b kept (stopped_at b s.stopped) apart can (h.stopped b))

  -- the journal kept nothing
  pub sound_reopened : (s : Situation) (a : Actor) → IsSound cluster s → IsSound cluster (reopened cluster s a [])
  sound_reopened s a h = sound_up s a [] (tt, tt) h

  -- it kept the steps that were stopped
  pub sound_kept : (s : Situation) (a : Actor) → IsSound cluster s → IsSound cluster (reopened cluster s a (stopped_at a s.stopped))
  sound_kept s a h = sound_up s a (stopped_at a s.stopped) (h.stopped a) h

  pub sound_restarted : (keeps : Bool) (s : Situation) (a : Actor) → IsSound cluster s → IsSound cluster (reopened cluster s a (kept_if keeps a s))
  sound_restarted true s a h = sound_kept s a h
  sound_restarted false s a h = sound_reopened s a h

  -- ---- what a restart changes

  -- of its actor
  pub did_restart : (items : List Item) (a : Actor) (kept : ℕ)
      → DidMore cluster items (entering cluster items a (RestartEvent kept) false ∷ items) a (record { act = Restarts; emitted = silence }) [] false
  did_restart items a kept =
      let did : DidMore cluster items (entering cluster items a (RestartEvent kept) false ∷ items) a (record { act = Restarts; emitted = emits cluster items a Restarts }) [] false =
      did_more cluster items a (RestartEvent kept) Restarts false (restart_may cluster items a kept) in
      subst (λ (e : Emitted). DidMore cluster items (entering cluster items a (RestartEvent kept) false ∷ items) a (record { act = Restarts; emitted = e }) [] false)
      (restart_emits cluster items a) did

  pub did_reopen : (s : Situation) (a : Actor) → DidMore cluster (whole s) (whole (reopened cluster s a [])) a (record { act = Restarts; emitted = silence }) [] false
  did_reopen s a = did_restart (whole s) a 0

  -- first each step that was kept, and then the restart
  pub did_keep : (s : Situation) (a : Actor) (kept : Event) (act : Act) → MayTake cluster (whole s) a (event_in s kept) act
      → DidMore cluster (whole s) (whole (entered cluster s a kept true)) a (record { act = act; emitted = emits cluster (whole s) a act })
      (payload_by (whole s) a (event_in s kept) (emits cluster (whole s) a act).notes) true
  did_keep s a kept act may = did_more cluster (whole s) a (event_in s kept) act true may

  pub did_reopen_kept : (s : Situation) (a : Actor) (kept : List Event)
      → DidMore cluster (whole (with_kept cluster s a kept)) (whole (reopened cluster s a kept)) a (record { act = Restarts; emitted = silence }) [] false
  did_reopen_kept s a kept = did_restart (whole (with_kept cluster s a kept)) a (length kept)

  -- of another
  pub entered_apart : (s : Situation) (a b : Actor) (events : List Event) (lost : Bool) → same_actor a b ≡ false
      → IsUntouched cluster (whole s) (whole (entered_all cluster s a events lost)) b
  entered_apart s a b [] lost apart = nothing_new cluster (whole s) b
  entered_apart s a b (event ∷ events) lost apart =
      let between : Situation = entered cluster s a event lost in
      untouched_on cluster (whole s) (whole between) (whole (entered_all cluster between a events lost)) b
      (untouched cluster (whole s) (entering cluster (whole s) a (event_in s event) lost) b apart) (entered_apart between a b events lost apart)

  pub reopened_apart : (s : Situation) (a b : Actor) (kept : List Event) → same_actor a b ≡ false
      → IsUntouched cluster (whole s) (whole (reopened cluster s a kept)) b
  reopened_apart s a b kept apart =
      let between : List Item = whole (with_kept cluster s a kept) in
      untouched_on cluster (whole s) between (whole (reopened cluster s a kept)) b (entered_apart s a b kept true apart)
      (untouched cluster between (entering cluster between a (RestartEvent (length kept)) false) b apart)

  -- nothing of it is stopped any more, and others' steps are as before
  pub reopened_own : (s : Situation) (a : Actor) (kept : List Event) → stopped_at a (reopened cluster s a kept).stopped ≡ []
  reopened_own s a kept = without_own a s.stopped

  pub reopened_other : (s : Situation) (a b : Actor) (kept : List Event) → same_actor a b ≡ false
      → stopped_at b (reopened cluster s a kept).stopped ≡ stopped_at b s.stopped
  reopened_other s a b kept apart = without_other b a apart s.stopped
