-- The items of a schedule, after the run that stood before, are a run.
use Rattle.std.proofs.Common.{◌≡◌, ℕ, suc, ◌+◌, ◌<◌, ◌≤◌, nat_lt, Bool, true, false, not, ◌&&◌, List, [], ◌∷◌, length, Option, None, Some, refl, sym, ◌∙◌, ap, subst, arith, ⊎_elim}
use Rattle.std.specs.List.{slice_get, AllByRecursion}
use Rattle.std.proofs.lemmas.Bool.{true≢false, and_parts, not-false, not-true}
use Rattle.std.proofs.lemmas.Option.{slice_get_cases}
use Rattle.acc_base.specs.Faults.{or_else}
use Rattle.acc_stamp.proofs.Rising.{each_weaker}
use Rattle.acc_stamp.specs.declared.actors.Actor.{Actor}
use Rattle.acc_stamp.specs.Actor.{actor_of}
use Rattle.acc_topology.specs.Sets.{is_among}
use Rattle.acc_message.specs.declared.entry.Entry.{Entry}
use Rattle.acc_message.specs.declared.entry.Event.{Event}
use Rattle.acc_message.specs.declared.entry.Event.TheVariants.{Begin as BeginEvent, Recover as RecoverEvent, Slow as SlowEvent, Message as MessageEvent, Restart as RestartEvent}
use Rattle.acc_message.specs.declared.item.Skip.{Skip}
use Rattle.acc_message.specs.declared.item.Skip.TheVariants.{NoMessage, Down as IsDown, Begun, Unknown}
use Rattle.acc_message.specs.declared.item.Item.{Item}
use Rattle.acc_message.specs.declared.item.Item.TheVariants.{Step as StepItem, Skipped, Down}
use Rattle.acc_message.specs.Items.{same_actor, sent_of, is_begun, id_of_txn}
use Rattle.acc_message.specs.Run.{Cluster, act_of, StandsOn, is_down, IsRun}
use Rattle.acc_run_laws.specs.declared.ask.Ask.{Ask}
use Rattle.acc_run_laws.specs.declared.ask.Ask.TheVariants.{Begin as BeginAsk, Recover as RecoverAsk, Slow as SlowAsk, Deliver as DeliverAsk}
use Rattle.acc_run_laws.specs.Asks.{home_of_txn, receiver, stepper, event_for, skip_if, skip_of, slow_skip, emits_if, entry_at, entered as asked}
use Rattle.acc_run_laws.specs.AskLaws.{HasTxn, IsAskOf, IsUp, restart_at}
use Rattle.acc_run_laws.proofs.AskFacts.{skip_if-none, step_is_run, nothing_is_run}
use Rattle.acc_run_laws.proofs.LostFacts.{skip_is_run, down_is_run, restart_is_run}
use Rattle.acc_schedule.specs.Content.{Content}
use Rattle.acc_schedule.specs.Plan.{IsStep, IsPlan}
use Rattle.acc_schedule.specs.declared.plan.Step.{Step}
use Rattle.acc_schedule.specs.declared.plan.Step.TheVariants.{Begin, Deliver, Drop, Recover, Slow, Restart, Fail, Drain}
use Rattle.acc_actor_laws.proofs.Standing.{not_none}
use Rattle.acc_safety.proofs.Bridge.{same}
use Rattle.acc_schedule_runs.specs.Situations.{Situation, opened, raised_event, raised, joined, whole, receiver_in, is_through, IsOldestWaiting, stopped_at, without}
use Rattle.acc_schedule_runs.specs.Moves.{Answers, fails_in, with_item, event_in, entry_of, entered, is_journalled, stopped_by, tried_if, tried, stepped_unless, dropped_unless, down_skip, begin_skip, recover_skip, slowing_skip, message_skip, deliver_skip, kept_if, reopened, restarted_if, Drains, stops, delivers, IsNext}
use Rattle.acc_schedule_runs.specs.Schedules.{Follows, cluster_of, Obeys}
use Rattle.acc_schedule_runs.specs.Laws.{IsStepOf}
use Rattle.acc_schedule_runs.proofs.Joined.{message_whole, is_sent_whole, joined_alone}
use Rattle.acc_schedule_runs.proofs.StopLists.{by_without, by_stops}
use Rattle.acc_schedule_runs.proofs.OneStop.{StopsOne, one_stopped, one_reopened, none_stopped}
use Rattle.acc_schedule_runs.proofs.StoppedSteps.{CanGoOn, is_other, still, gone_down, comes_back}

journalled_in : (by : ℕ) (a : Actor) (event : Event) → is_journalled a (raised_event by event) ≡ is_journalled a event
journalled_in by a (BeginEvent txn) = refl
journalled_in by a (RecoverEvent txn) = refl
journalled_in by a (SlowEvent txn) = refl
journalled_in by a (MessageEvent number) = refl
journalled_in by a (RestartEvent kept) = refl

or_else-none : (o other : Option Skip) → or_else o other ≡ None → (o ≡ None) × (other ≡ None)
or_else-none None other e = (refl, e)
or_else-none (Some cause) other e = absurd (not_none cause (sym e))

module _ (cluster : Cluster) (first : List Item) where
  abbrev AllGoOn : Situation → Actor → List Event → Type 0
  AllGoOn s a events = AllByRecursion (λ (event : Event). CanGoOn cluster (whole s) a (event_in s event)) events

  -- The whole past is a run, which goes on from the first one, and each step that was stopped can still be entered.
  pub record Sound (s : Situation) : Type 0 where
    earlier : s.earlier ≡ first
    run : IsRun cluster (whole s)
    stopped : (a : Actor) → AllGoOn s a (stopped_at a s.stopped)
    one : StopsOne s

  pub sound_run : (s : Situation) → Sound s → IsRun cluster (whole s)
  sound_run s h = h.run

  pub sound_earlier : (s : Situation) → Sound s → s.earlier ≡ first
  sound_earlier s h = h.earlier

  -- ---- an item more

  -- of no actor that has a stopped step
  sound_item : (s : Situation) (item : Item) → IsRun cluster (whole (with_item item s))
      → ((a : Actor) → is_down a (whole s) ≡ true → is_other a (raised (length (sent_of s.earlier)) item) ≡ true) → Sound s → Sound (with_item item s)
  sound_item s item run other h =
      record {
        earlier = h.earlier;
        run = run;
        stopped = λ a.
            each_weaker _ (λ event. CanGoOn cluster (whole (with_item item s)) a (event_in s event)) (stopped_at a s.stopped)
            (λ event can. still cluster (whole s) (raised (length (sent_of s.earlier)) item) a (event_in s event) run.stands.0 (other a can.down) can)
            (h.stopped a);
        one = h.one;
      }

  sound_skip : (s : Situation) (number : ℕ) (cause : Skip) → Sound s → Sound (with_item (Skipped number cause) s)
  sound_skip s number cause h = sound_item s (Skipped number cause) (skip_is_run cluster (whole s) number cause h.run) (λ a down. refl) h

  sound_down : (s : Situation) (a : Actor) → Sound s → Sound (with_item (Down a) s)
  sound_down s a h = sound_item s (Down a) (down_is_run cluster (whole s) a h.run) (λ b down. refl) h

  -- another actor is up
  up_is_other : (items : List Item) (a b : Actor) → is_down a items ≡ false → is_down b items ≡ true → not (same_actor a b) ≡ true
  up_is_other items a b up down = by (same_actor a b) refl
    where
      by : (here : Bool) → same_actor a b ≡ here → not here ≡ true
      by true is = absurd (true≢false (sym down ∙ sym (ap (λ c. is_down c items) (same a b is)) ∙ up))
      by false is = refl

  -- ---- a step of an actor

  -- what the actor enters next stands, and the actor is up
  record Steps (s : Situation) (a : Actor) (event : Event) : Type 0 where
    up : is_down a (whole s) ≡ false
    run : IsRun cluster (StepItem (entry_at cluster (whole s) a (event_in s event)) ∷ whole s)

  sound_stopped : (s : Situation) (a : Actor) (event : Event) → is_journalled a event ≡ true → Sound s → Steps s a event
      → Sound (stopped_by a (event ∷ []) s)
  sound_stopped s a event journalled h next =
      record {
        earlier = h.earlier;
        run = down.run;
        stopped = λ b.
            by_stops (AllGoOn (with_item (Down a) s) b) a b s.stopped (event ∷ []) (λ is. (subst (λ c. CanGoOn cluster (Down a ∷ whole s) c (event_in s event)) (same a b is) gone, tt))
            (λ is. down.stopped b);
        one = one_stopped s a event h.one;
      }
    where
      down : Sound (with_item (Down a) s)
      down = sound_down s a h

      stands : StandsOn cluster (whole s) (entry_at cluster (whole s) a (event_in s event))
      stands = next.run.stands.0

      gone : CanGoOn cluster (Down a ∷ whole s) a (event_in s event)
      gone = gone_down cluster (whole s) a (event_in s event) (journalled_in (length (sent_of s.earlier)) a event ∙ journalled) stands

  sound_entered : (s : Situation) (a : Actor) (event : Event) → Sound s → Steps s a event → Sound (entered cluster s a event false)
  sound_entered s a event h next =
      sound_item s (entry_of cluster s a event false) next.run (λ b down. up_is_other (whole s) a b next.up down) h

  sound_tried : (answers : Answers) (s : Situation) (a : Actor) (event : Event) → Sound s → Steps s a event → Sound (tried cluster answers s a event)
  sound_tried answers s a event h next = by (is_journalled a event && fails_in answers s) refl
    where
      by : (test : Bool) → (is_journalled a event && fails_in answers s) ≡ test → Sound (tried_if test cluster s a event)
      by true is = sound_stopped s a event (and_parts (is_journalled a event) (fails_in answers s) is).0 h next
      by false is = sound_entered s a event h next

  sound_stepped : (skip : Option Skip) (answers : Answers) (number : ℕ) (s : Situation) (a : Actor) (event : Event)
      → (skip ≡ None → Steps s a event) → Sound s → Sound (stepped_unless skip cluster answers number s a event)
  sound_stepped (Some cause) answers number s a event next h = sound_skip s number cause h
  sound_stepped None answers number s a event next h = sound_tried answers s a event h (next refl)

  -- ---- what isn't passed over

  run_of : (s : Situation) (ask : Ask) → Sound s → IsAskOf cluster ask → IsUp cluster (whole s) ask → skip_of cluster (whole s) ask ≡ None
      → IsRun cluster (StepItem (entry_at cluster (whole s) (stepper cluster (whole s) ask) (event_for ask)) ∷ whole s)
  run_of s ask h of up none =
      subst (λ o. IsRun cluster (asked cluster (whole s) 0 ask o ∷ whole s)) none (step_is_run cluster (whole s) 0 ask h.run of up)

  up_unless : (s : Situation) (a : Actor) → down_skip s a ≡ None → is_down a (whole s) ≡ false
  up_unless s a none = skip_if-none (is_down a (whole s)) (IsDown a) none

  begins : (s : Situation) (txn : ℕ) → HasTxn cluster txn → Sound s → begin_skip cluster s txn ≡ None
      → Steps s (home_of_txn cluster txn) (BeginEvent txn)
  begins s txn has h none =
      let parts = or_else-none (down_skip s (home_of_txn cluster txn)) (skip_if (is_begun (whole s) txn) (Begun txn)) none in
      let up = up_unless s (home_of_txn cluster txn) parts.0 in
      record { up = up; run = run_of s (BeginAsk txn) h has up parts.1 }

  recovers : (s : Situation) (txn node : ℕ) → is_among cluster.layout.nodes node ≡ true → Sound s → recover_skip s txn node ≡ None
      → Steps s (actor_of node 0) (RecoverEvent txn)
  recovers s txn node among h none =
      let parts = or_else-none (down_skip s (actor_of node 0)) (skip_if (not (is_begun (whole s) txn)) (Unknown txn)) none in
      let up = up_unless s (actor_of node 0) parts.0 in
      record { up = up; run = run_of s (RecoverAsk txn node) h among up parts.1 }

  slows : (s : Situation) (txn : ℕ) → Sound s → slowing_skip cluster s txn ≡ None → Steps s (home_of_txn cluster txn) (SlowEvent txn)
  slows s txn h none =
      let parts = or_else-none (down_skip s (home_of_txn cluster txn)) (slow_skip cluster (whole s) txn (id_of_txn (whole s) txn)) none in
      let up = up_unless s (home_of_txn cluster txn) parts.0 in
      record { up = up; run = run_of s (SlowAsk txn) h tt up parts.1 }

  takes : (s : Situation) (message : ℕ) → Sound s → nat_lt message (length (sent_of s.own)) ≡ true
      → is_down (receiver_in s message) (whole s) ≡ false → Steps s (receiver_in s message) (MessageEvent message)
  takes s message h sent up =
      let number : ℕ = length (sent_of s.earlier) + message in
      let to = message_whole s message in
      let up_too = ap (λ o. is_down (receiver o) (whole s)) to ∙ up in
      let not_skipped = ap (λ b. skip_if (not b) (NoMessage number (length (sent_of (whole s))))) (is_sent_whole s message sent) in
      record {
        up = up;
        run = subst (λ o. IsRun cluster (StepItem (entry_at cluster (whole s) (receiver o) (MessageEvent number)) ∷ whole s)) to
            (run_of s (DeliverAsk number) h tt up_too not_skipped);
      }

  delivers_it : (s : Situation) (message : ℕ) → Sound s → deliver_skip s message ≡ None → Steps s (receiver_in s message) (MessageEvent message)
  delivers_it s message h none =
      let parts = or_else-none (message_skip s message) (down_skip s (receiver_in s message)) none in
      let sent = skip_if-none (not (nat_lt message (length (sent_of s.own)))) (NoMessage message (length (sent_of s.own))) parts.0 in
      takes s message h (not-false (nat_lt message (length (sent_of s.own))) sent) (up_unless s (receiver_in s message) parts.1)

  waiting_taken : (s : Situation) (message : ℕ) → Sound s → IsOldestWaiting s message → Steps s (receiver_in s message) (MessageEvent message)
  waiting_taken s message h oldest =
      let parts = and_parts (nat_lt message (length (sent_of s.own))) (not (is_through s message) && not (is_down (receiver_in s message) (whole s))) oldest.0 in
      let later = and_parts (not (is_through s message)) (not (is_down (receiver_in s message) (whole s))) parts.1 in
      takes s message h parts.0 (not-true (is_down (receiver_in s message) (whole s)) later.1)

  -- ---- restarts

  -- the steps of the other actors are still to come
  left_over : (s next : Situation) (a : Actor)
      → ((b : Actor) (event : Event) → same_actor a b ≡ false → CanGoOn cluster (whole s) b (event_in s event) → CanGoOn cluster (whole next) b (event_in next event))
      → Sound s → (b : Actor) → AllGoOn next b (stopped_at b (without a s.stopped))
  left_over s next a later h b =
      by_without (AllGoOn next b) a b s.stopped (λ is. tt)
      (λ is. each_weaker _ (λ event. CanGoOn cluster (whole next) b (event_in next event)) (stopped_at b s.stopped) (λ event. later b event is) (h.stopped b))

  too_many : {n : ℕ} → suc (suc n) ≤ 1 → ⊥
  too_many h = omega arith

  sound_reopened : (s : Situation) (a : Actor) (kept : List Event) → AllGoOn s a kept → length kept ≤ 1 → Sound s → Sound (reopened cluster s a kept)
  sound_reopened s a [] can few h =
      record { earlier = h.earlier; run = run; stopped = left_over s (reopened cluster s a []) a later h; one = one_reopened cluster s a [] h.one }
    where
      run : IsRun cluster (whole (reopened cluster s a []))
      run = restart_is_run cluster a (whole s) [] h.run tt

      later : (b : Actor) (event : Event) → same_actor a b ≡ false → CanGoOn cluster (whole s) b (event_in s event)
          → CanGoOn cluster (whole (reopened cluster s a [])) b (event_in s event)
      later b event apart can = still cluster (whole s) (restart_at cluster (whole s) a 0) b (event_in s event) run.stands.0 (ap not apart) can
  sound_reopened s a (kept ∷ []) can few h =
      record {
        earlier = h.earlier;
        run = run;
        stopped = left_over s (reopened cluster s a (kept ∷ [])) a later h;
        one = one_reopened cluster s a (kept ∷ []) h.one;
      }
    where
      lost : Entry
      lost =
          record {
            actor = a;
            event = event_in s kept;
            emitted = emits_if cluster (whole s) a (act_of cluster (whole s) (event_in s kept));
            lost = true;
          }

      run : IsRun cluster (whole (reopened cluster s a (kept ∷ [])))
      run = restart_is_run cluster a (whole s) (lost ∷ []) h.run (comes_back cluster (whole s) a (event_in s kept) can.0, tt)

      later : (b : Actor) (event : Event) → same_actor a b ≡ false → CanGoOn cluster (whole s) b (event_in s event)
          → CanGoOn cluster (whole (reopened cluster s a (kept ∷ []))) b (event_in s event)
      later b event apart goes =
          still cluster (StepItem lost ∷ whole s) (restart_at cluster (StepItem lost ∷ whole s) a 1) b (event_in s event) run.stands.0 (ap not apart)
          (still cluster (whole s) (StepItem lost) b (event_in s event) run.stands.1.0 (ap not apart) goes)
  sound_reopened s a (kept ∷ other ∷ more) can few h = absurd (too_many few)

  sound_restarted : (answers : Answers) (s : Situation) (a : Actor) (fails : Bool) → Sound s → Sound (restarted_if fails cluster answers s a)
  sound_restarted answers s a true h = sound_down s a h
  sound_restarted answers s a false h =
      let keeps : Bool = answers.keeps (length s.own) in
      sound_reopened s a (kept_if keeps a s) (can keeps) (few keeps) h
    where
      can : (keeps : Bool) → AllGoOn s a (kept_if keeps a s)
      can true = h.stopped a
      can false = tt

      few : (keeps : Bool) → length (kept_if keeps a s) ≤ 1
      few true = h.one a
      few false = omega arith

  -- ---- steps of a schedule

  sound_dropped : (skip : Option Skip) (number : ℕ) (s : Situation) (message : ℕ) → Sound s → Sound (dropped_unless skip number s message)
  sound_dropped (Some cause) number s message h = sound_skip s number cause h
  sound_dropped None number s message h = record { earlier = h.earlier; run = h.run; stopped = h.stopped; one = h.one }

  sound_drained : (answers : Answers) (last s : Situation) → Drains cluster answers last s → Sound s → Sound last
  sound_drained answers last s (stops _ none is) h = subst Sound (sym is) h
  sound_drained answers last s (delivers _ n oldest rest) h =
      sound_drained answers last (tried cluster answers s (receiver_in s n) (MessageEvent n)) rest
      (sound_tried answers s (receiver_in s n) (MessageEvent n) h (waiting_taken s n h oldest))

  pub sound_next : (answers : Answers) (number : ℕ) (step : Step) (s next : Situation) → IsStepOf cluster step
      → IsNext cluster answers number step s next → Sound s → Sound next
  sound_next answers number (Begin txn) s next of is h =
      subst Sound (sym is)
      (sound_stepped (begin_skip cluster s txn) answers number s (home_of_txn cluster txn) (BeginEvent txn) (begins s txn of h) h)
  sound_next answers number (Deliver message) s next of is h =
      subst Sound (sym is)
      (sound_stepped (deliver_skip s message) answers number s (receiver_in s message) (MessageEvent message) (delivers_it s message h) h)
  sound_next answers number (Drop message) s next of is h = subst Sound (sym is) (sound_dropped (message_skip s message) number s message h)
  sound_next answers number (Recover txn node) s next of is h =
      subst Sound (sym is)
      (sound_stepped (recover_skip s txn node) answers number s (actor_of node 0) (RecoverEvent txn) (recovers s txn node of h) h)
  sound_next answers number (Slow txn) s next of is h =
      subst Sound (sym is)
      (sound_stepped (slowing_skip cluster s txn) answers number s (home_of_txn cluster txn) (SlowEvent txn) (slows s txn h) h)
  sound_next answers number (Restart actor choice) s next of is h =
      subst Sound (sym is) (sound_restarted answers s actor (fails_in answers s) h)
  sound_next answers number (Fail actor calls) s next of is h = subst Sound (sym is) h
  sound_next answers number Drain s next of drains h = sound_drained answers next s drains h

  pub sound_last : (answers : Answers) (number : ℕ) (steps : List Step) (s last : Situation) → AllByRecursion (IsStepOf cluster) steps
      → Follows cluster answers number steps s last → Sound s → Sound last
  sound_last answers number [] s last of is h = subst Sound (sym is) h
  sound_last answers number (step ∷ steps) s last of follows h =
      sound_last answers (number + 1) steps follows.0 last of.1 follows.2 (sound_next answers number step s follows.0 of.0 follows.1 h)

  pub sound_opened : IsRun cluster first → Sound (opened first)
  sound_opened run = record { earlier = refl; run = run; stopped = λ a. tt; one = none_stopped first }

pub gives_a_run : (cluster : Cluster) (answers : Answers) (earlier : List Item) (steps : List Step) (last : Situation) → IsRun cluster earlier
    → AllByRecursion (IsStepOf cluster) steps → Follows cluster answers 0 steps (opened earlier) last → IsRun cluster (whole last)
gives_a_run cluster answers earlier steps last run of follows =
    let h : Sound cluster earlier last = sound_last cluster earlier answers 0 steps (opened earlier) last of follows (sound_opened cluster earlier run) in
    h.run

-- ---- plans

there_is : {X : Type 0} (xs : List X) (i : ℕ) → i < length xs → (x : X) × (slice_get xs i ≡ Some x)
there_is xs i less = ⊎_elim (λ found. (found.0, found.2)) (λ past. absurd (beyond less past.0)) (slice_get_cases xs i).1
  where
    beyond : {n k : ℕ} → n < k → k ≤ n → ⊥
    beyond p q = omega arith

module _ (plan : Content) (h : IsPlan plan) where
  has_txn : (txn : ℕ) → txn < length plan.names → HasTxn (cluster_of plan) txn
  has_txn txn less =
      let home = there_is plan.homes txn (subst (λ n. txn < n) (sym h.homes_as_many) less) in
      let body = there_is plan.bodies txn (subst (λ n. txn < n) (sym h.bodies_as_many) less) in
      record { home = home.0; home_is = home.1; body = body.0; body_is = body.1 }

  step_of_plan : (step : Step) → IsStep (length plan.names) plan.topology step → IsStepOf (cluster_of plan) step
  step_of_plan (Begin txn) is = has_txn txn is
  step_of_plan (Deliver message) is = tt
  step_of_plan (Drop message) is = tt
  step_of_plan (Recover txn node) is = is.1
  step_of_plan (Slow txn) is = tt
  step_of_plan (Restart actor choice) is = tt
  step_of_plan (Fail actor calls) is = tt
  step_of_plan Drain is = tt

  pub steps_of_plan : (steps : List Step) → AllByRecursion (IsStep (length plan.names) plan.topology) steps → AllByRecursion (IsStepOf (cluster_of plan)) steps
  steps_of_plan [] known = tt
  steps_of_plan (step ∷ steps) known = (step_of_plan step known.0, steps_of_plan steps known.1)

pub obeys_a_run : (plan : Content) (answers : Answers) (items : List Item) → IsPlan plan → Obeys plan answers items → IsRun (cluster_of plan) items
obeys_a_run plan answers items h obeys =
    let cluster : Cluster = cluster_of plan in
    let last : Sound cluster [] obeys.last =
    sound_last cluster [] answers 0 plan.steps (opened []) obeys.last (steps_of_plan plan h plan.steps h.steps_known) obeys.follows
    (sound_opened cluster [] (nothing_is_run cluster).run) in
    subst (IsRun cluster) (ap (λ e. joined e obeys.last.own) last.earlier ∙ joined_alone obeys.last.own ∙ sym obeys.items_are) last.run
