-- Messages that a store takes as a group: what is staged after its past, and what settling it comes to.
use Rattle.std.proofs.Common.{◌≡◌, ◌≢◌, ℕ, ◌+◌, ◌<◌, ◌≤◌, ◌^◌, true, false, not, List, [], ◌∷◌, ◌++◌, length, Option, None, Some, IfSome, is_none, refl, sym, ◌∙◌, ap, subst, arith}
use Rattle.std.proofs.lemmas.List.{append_assoc, append-nil}
use Rattle.std.proofs.lemmas.Bool.{true≢false}
use Rattle.acc_stamp.specs.declared.actors.Actor.{Actor}
use Rattle.acc_stamp.proofs.Rising.{each_weaker}
use Rattle.acc_ports.specs.declared.disk.Disk.{Ghosts}
use Rattle.acc_ports.specs.Faults.{Rose}
use Rattle.acc_message.specs.declared.message.Message.{Message}
use Rattle.acc_message.specs.declared.entry.Emitted.{Emitted}
use Rattle.acc_message.specs.declared.entry.Event.{Event}
use Rattle.acc_message.specs.declared.entry.Event.TheVariants.{Begin, Recover, Slow, Message as TakesMessage, Restart}
use Rattle.acc_message.specs.declared.item.Item.{Item}
use Rattle.acc_message.specs.Items.{sent_of, message_at}
use Rattle.acc_message.specs.NodeRules.{Act, Takes}
use Rattle.acc_message.specs.Run.{Cluster, act_of, emits, is_node, is_down}
use Rattle.acc_message.specs.StoreRules.{replay}
use Rattle.acc_message.specs.VoteRule.{greatest_h}
use Rattle.acc_message_code.specs.Weight.{weight_of_all, weight_of}
use Rattle.acc_safety.specs.Valid.{IsStanding}
use Rattle.acc_safety.proofs.Bridge.{same}
use Rattle.acc_run_laws.specs.Sends.{AreFew, AreSendable}
use Rattle.acc_run_laws.specs.Calls.{IsDeliverable, StoreMeets}
use Rattle.acc_run_laws.proofs.Sendable.{store_meets, next_sendable}
use Rattle.acc_run_laws.specs.Asks.{emits_if}
use Rattle.acc_payloads.specs.Items.{payloads_in, downs_in}
use Rattle.acc_payloads.specs.declared.stops.Unsent.{Unsent}
use Rattle.acc_durable_store.specs.declared.actor.StoreActor.{StoreActor}
use Rattle.acc_payloads.specs.Stops.{Stop, Past, some, kept_with, after_group, IsUnsent}
use Rattle.acc_durable_store.specs.Actor as store
use Rattle.acc_durable_store.specs.Weighing.{StoreMayWeigh}
use Rattle.acc_schedule.specs.Content.{Content}
use Rattle.acc_schedule.specs.Plan.{IsPlan}
use Rattle.acc_pasts.specs.Entries.{payload_for, entering, MayTake}
use Rattle.acc_pasts.proofs.Pasts.{did_more, went_down}
use Rattle.acc_pasts.proofs.Payloads.{store_payload}
use Rattle.acc_pasts.proofs.Replayed.{store_emits_next}
use Rattle.acc_pasts.proofs.Situations.{journalled_in}
use Rattle.acc_pasts.proofs.Sound.{sound_standing}
use Rattle.acc_pasts.proofs.Stops.{act_still, message_still}
use Rattle.acc_schedule_runs.specs.Situations.{Situation, raised, raised_event, whole, stopped_at}
use Rattle.acc_schedule_runs.specs.Moves.{with_item, event_in, entry_of, entered, entered_all, is_journalled}
use Rattle.acc_schedule_runs.specs.Schedules.{cluster_of}
use Rattle.acc_schedule_runs.proofs.StopLists.{all_earlier, all_stopped}
use Rattle.acc_payloads.specs.Appends.{fails_append, after_append, passed_in}
use Rattle.acc_schedule_runs.specs.Disks.{Disks, after_step}
use Rattle.acc_actors.specs.declared.slot.Slot.TheVariants.{Store}
use Rattle.acc_actors.specs.Pasts.{first_of, stop_by, stops_in, stops_at, taking, store_stops, store_past}
use Rattle.acc_actors.specs.Slots.{StoreStages, store_name}
use Rattle.acc_actors.specs.Asked.{over_disks, MayTakeEach, IsFewBehind, IsStaged, AreGiven, settled_if, HasSettled, HasSettledStrictly}
use Rattle.acc_actors.proofs.Few.{length_whole, less_than, le_on, rose_counted, armed_after, passed_after}
use Rattle.acc_actors.proofs.Pasts.{past_of, same_past, stop_of, stops_now, none_stopped, payload_is}
use Rattle.acc_actors.proofs.RestartPasts.{no_store, AllMay, standing_on, messages_in, held_in, message_of, store_known, store_all, store_told}
use Rattle.acc_actors.proofs.Takes.{message_found, NumbersAlone, deliverable_at, text_at}

-- ---- a store takes messages

module _ (cluster : Cluster) (a : Actor) (kind : is_node a ≡ false) where
  -- what it may take it may still take, whatever is entered before
  pub still_may : (s : Situation) (item : Item) (event : Event) (act : Act) → is_journalled a event ≡ true → MayTake cluster (whole s) a (event_in s event) act
      → MayTake cluster (whole (with_item item s)) a (event_in s event) act
  still_may s item (Begin txn) act journalled may = absurd (no_store a may.place.0.0 may.place.0.2 kind)
  still_may s item (Recover txn) act journalled may = absurd (no_store a may.place.0.0 may.place.0.2 kind)
  still_may s item (Slow txn) act journalled may = absurd (true≢false (sym journalled))
  still_may s item (TakesMessage number) act journalled may =
      record { act_is = act_still cluster (whole s) (raised (length (sent_of s.earlier)) item) (event_in s (TakesMessage number)) act may.act_is; place = may.place }
  still_may s item (Restart kept) act journalled may = absurd (true≢false (sym journalled))

  pub each_on : (s : Situation) (item : Item) (events : List Event) → MayTakeEach cluster s a events → MayTakeEach cluster (with_item item s) a events
  each_on s item events each = each_weaker _ _ events (λ event h. (h.0, still_may s item event h.0 h.2 h.1, h.2)) each

  pub all_each : (events : List Event) (s : Situation) → MayTakeEach cluster s a events → AllMay cluster s a events false
  all_each [] s each = tt
  all_each (event ∷ events) s each = (
    (each.0.0, each.0.1, journalled_in s a event ∙ each.0.2),
    all_each events (entered cluster s a event false) (each_on s (entry_of cluster s a event false) events each.1),
  )

  -- ---- after all of them

  abbrev all : Situation → List Event → Situation
  all s events = entered_all cluster s a events false

  all_may_take : (events : List Event) (s : Situation) (event : Event) (act : Act) → is_journalled a event ≡ true → MayTake cluster (whole s) a (event_in s event) act
      → MayTake cluster (whole (all s events)) a (event_in s event) act
  all_may_take [] s event act journalled may = may
  all_may_take (first ∷ events) s event act journalled may =
      all_may_take events (entered cluster s a first false) event act journalled (still_may s (entry_of cluster s a first false) event act journalled may)

  all_standing : (events : List Event) (s : Situation) → AllMay cluster s a events false → IsStanding cluster (whole s) → IsStanding cluster (whole (all s events))
  all_standing [] s may standing = standing
  all_standing (event ∷ events) s may standing =
      all_standing events (entered cluster s a event false) may.1 (standing_on cluster a s event may.0.0 false may.0.1 standing)

  all_up : (events : List Event) (s : Situation) → AllMay cluster s a events false → is_down a (whole s) ≡ false → is_down a (whole (all s events)) ≡ false
  all_up [] s may up = up
  all_up (event ∷ events) s may up =
      all_up events (entered cluster s a event false) may.1 (did_more cluster (whole s) a (event_in s event) may.0.0 false may.0.1).down

  all_downs : (events : List Event) (s : Situation) → downs_in a (all s events).own ≡ downs_in a s.own
  all_downs [] s = refl
  all_downs (event ∷ events) s = all_downs events (entered cluster s a event false)

  all_length : (events : List Event) (s : Situation) → length (all s events).own ≡ length s.own + length events
  all_length [] s = omega arith
  all_length (event ∷ events) s = let rest = all_length events (entered cluster s a event false) in omega (arith, rest)

  few_all : (s : Situation) (events : List Event) → IsFewBehind s events → AreFew (whole (all s events))
  few_all s events few =
      let long : length (whole (all s events)) ≡ length (all s events).earlier + length (all s events).own = length_whole (all s events) in
      let early : length (all s events).earlier ≡ length s.earlier = ap (λ (items : List Item). length items) (all_earlier cluster a false s events) in
      let own : length (all s events).own ≡ length s.own + length events = all_length events s in
      omega (arith, long, early, own, few.1)

  event_all : (s : Situation) (events : List Event) (event : Event) → event_in (all s events) event ≡ event_in s event
  event_all s events event = ap (λ (earlier : List Item). raised_event (length (sent_of earlier)) event) (all_earlier cluster a false s events)

-- ---- what is staged

stops_append : (one other : List (Stop Act)) → store_stops (one ++ other) ≡ store_stops one ++ store_stops other
stops_append [] other = refl
stops_append (stop ∷ one) other =
    ap (λ stops. taking stop.event stop.payload stop.act ++ stops) (stops_append one other)
    ∙ sym (append_assoc (taking stop.event stop.payload stop.act) (store_stops one) (store_stops other))

-- one message more
module _ (cluster : Cluster) (a : Actor) (kind : is_node a ≡ false) (number : ℕ) (m : Message) where
  abbrev own : Event
  own = TakesMessage number

  message_stop_is : (s : Situation) → MayTake cluster (whole s) a (event_in s own) (Takes m) → message_at (whole s) (length (sent_of s.earlier) + number) ≡ Some m
      → stop_of cluster s a own m ≡ store.message_stop number m
  message_stop_is s may found =
      ap (λ p. record { event = own; act = m; payload = p })
      (ap first_of (payload_is cluster (whole s) a (event_in s own) (Takes m) may.act_is ∙ store_payload (whole s) a (length (sent_of s.earlier) + number) m (emits cluster (whole s) a (Takes m)).notes kind found))

  pub staged_more : (staged : List Event) (s : Situation) → MayTake cluster (whole s) a (event_in s own) (Takes m) → message_at (whole s) (length (sent_of s.earlier) + number) ≡ Some m
      → store_stops (stops_in cluster s a (staged ++ own ∷ []) false) ≡ store_stops (stops_in cluster s a staged false) ++ store.message_stop number m ∷ []
  staged_more [] s may found = store_known cluster a s own m [] false may.act_is ∙ ap (λ stop. stop ∷ []) (message_stop_is s may found)
  staged_more (first ∷ staged) s may found =
      let next : Situation = entered cluster s a first false in
      let head : List (Stop Act) = stop_by first (act_of cluster (whole s) (event_in s first)) (payload_for cluster (whole s) a (event_in s first)) in
      stops_append head (stops_in cluster next a (staged ++ own ∷ []) false)
      ∙ ap (λ stops. store_stops head ++ stops)
      (staged_more staged next (still_may cluster a kind s (entry_of cluster s a first false) own (Takes m) (ap not kind) may)
      (message_still (whole s) (entering cluster (whole s) a (event_in s first) false) (length (sent_of s.earlier) + number) m found))
      ∙ sym (append_assoc (store_stops head) (store_stops (stops_in cluster next a staged false)) (store.message_stop number m ∷ []))
      ∙ ap (λ stops. stops ++ store.message_stop number m ∷ []) (sym (stops_append head (stops_in cluster next a staged false)))

-- ---- the calls

module _ {D : Type 0} (port : Ghosts D) (plan : Content) (s : Situation) (a : Actor) (staged : List Event) (t : StoreActor D) (is : IsStaged port plan s a staged (Store t)) where
  abbrev cluster : Cluster
  cluster = cluster_of plan

  abbrev past : Past Message
  past = store_past cluster s a

  abbrev stops : List (Stop Message)
  stops = store_stops (stops_in cluster s a staged false)

  abbrev behind : Situation
  behind = entered_all cluster s a staged false

  kind : is_node a ≡ false
  kind = is.stands.kind

  may : AllMay cluster s a staged false
  may = all_each cluster a kind staged s is.each

  standing : IsStanding cluster (whole behind)
  standing = all_standing cluster a kind staged s may (sound_standing cluster s is.sound)

  few : AreFew (whole behind)
  few = few_all cluster a kind s staged is.few

  -- what the store has taken in memory
  taken_is : kept_with stops past ≡ past_of (messages_in cluster a behind) (held_in cluster a behind) []
  taken_is = store_all cluster a staged s past.stopped false kind may

  -- ---- one more

  module _ (number : ℕ) (m : Message) (next : MayTake cluster (whole s) a (event_in s (TakesMessage number)) (Takes m)) where
    next_behind : MayTake cluster (whole behind) a (event_in behind (TakesMessage number)) (Takes m)
    next_behind =
        subst (λ e. MayTake cluster (whole behind) a e (Takes m)) (sym (event_all cluster a kind s staged (TakesMessage number)))
        (all_may_take cluster a kind staged s (TakesMessage number) (Takes m) (ap not kind) next)

    pub stages_more : (new : StoreActor D)
        → store.IsStaging port plan.topology (store_name plan a) past (stops ++ store.message_stop number m ∷ []) new → store.is_down new ≡ false → store.disk_of new ≡ store.disk_of t
        → StoreStages port plan s a (staged ++ TakesMessage number ∷ []) new
    stages_more new stood up disk =
        record {
          kind = kind;
          stands =
              subst (λ (all : List (Stop Message)). store.IsStaging port plan.topology (store_name plan a) past all new)
              (sym (staged_more cluster a kind number m staged s next (message_found m (message_at (whole s) (length (sent_of s.earlier) + number)) next.act_is))) stood;
          down = up ∙ sym is.up;
          counted = subst (λ d. downs_in a s.own ≤ (port.state d).faults) (sym disk) is.stands.counted;
        }

    pub takes_more : NumbersAlone port plan a number m → IsPlan plan → store.MayTake port plan.topology t stops m
    takes_more numbers_alone valid =
        let told : IsDeliverable cluster (whole s) m = deliverable_at port plan a number m s is.sound is.few.0 next in
        let meets : StoreMeets cluster (whole behind) a = store_meets cluster (whole behind) a standing few kind in
        let here = same _ a next.place in
        record {
          name = store_name plan a;
          past = past;
          stands = is.stands.stands;
          short = told.short is.sound.few_bodies;
          goes_here = record { goes_to = here; brings = told.brings (ap is_node here ∙ kind) };
          top = told.top;
          greatest = subst (λ (p : Past Message). greatest_h a (replay plan.topology a p.acts) < 2 ^ 62) (sym taken_is) meets.greatest;
          texts = text_at port plan a number m numbers_alone s is.sound valid next;
        }

    emits_behind : emits cluster (whole behind) a (Takes m) ≡ store.emits_next plan.topology a (kept_with stops past) m
    emits_behind =
        store_emits_next cluster (whole behind) a m standing kind ∙ ap (λ (p : Past Message). store.emits_next plan.topology a p m) (sym taken_is)

    sends_behind : AreSendable (store.emits_next plan.topology a (kept_with stops past) m).out
    sends_behind =
        subst (λ (e : Emitted). AreSendable e.out) emits_behind
        (next_sendable cluster (whole behind) a (Takes m) standing (record { event = event_in behind (TakesMessage number); act_is = next_behind.act_is; place = next_behind.place }) is.sound.few_bodies few)

    pub weighs_more : NumbersAlone port plan a number m → IsPlan plan → StoreMayWeigh port plan.topology t m
    weighs_more numbers_alone valid =
        record {
          may = (stops, takes_more numbers_alone valid);
          name = store_name plan a;
          past = past;
          staged = stops;
          stands = is.stands.stands;
          short = sends_behind.short;
          fits = less_than _ sends_behind.weight;
        }

    pub weight_is : weight_of_all (store.emits_next plan.topology a (kept_with stops past) m).out ≡ weight_of (entry_of cluster behind a (TakesMessage number) false)
    weight_is = ap (λ (e : Emitted). weight_of_all e.out) (sym emits_behind ∙ ap (emits_if cluster (whole behind) a) (sym next_behind.act_is))

  -- there is one at least
  pub stops_some : staged ≢ [] → stops ≢ []
  stops_some = by staged s may
    where
      by : (events : List Event) (s : Situation) → AllMay cluster s a events false → events ≢ [] → store_stops (stops_in cluster s a events false) ≢ []
      by [] s can there none = there refl
      by (event ∷ events) s can there none =
          let takes : (m : Message) × MayTake cluster (whole s) a (event_in s event) (Takes m) = message_of cluster a s event can.0.0 kind can.0.1 can.0.2 in
          true≢false (sym (ap (λ (l : List (Stop Message)). some l) (store_known cluster a s event takes.0 events false takes.1.act_is)) ∙ ap (λ (l : List (Stop Message)). some l) none)

  -- ---- settled

  settled_past : (given : Option (List Unsent)) → store_past cluster (settled_if (is_none given) cluster s a staged) a ≡ after_group given past stops
  settled_past None =
      same_past _ _ _ _ _ _ refl (append-nil (payloads_in a (whole s)))
      (ap store_stops (stops_now cluster s a staged false (each_weaker _ _ staged (λ event h. (h.0, h.1.act_is)) is.each)))
  settled_past (Some given) = same_past _ _ _ _ _ _ refl refl (ap store_stops none) ∙ sym taken_is
    where
      none : stops_at cluster behind a ≡ []
      none =
          ap (λ events. stops_in cluster behind a events true)
          (ap (stopped_at a) (all_stopped cluster a false s staged) ∙ none_stopped cluster s a is.sound is.up)

  settled_down : (given : Option (List Unsent)) → is_none given ≡ is_down a (whole (settled_if (is_none given) cluster s a staged))
  settled_down None = sym (went_down cluster (whole s) a).down
  settled_down (Some given) = sym (all_up cluster a kind staged s may is.up)

  pub settles : (new : StoreActor D) (given : Option (List Unsent)) → store.Settles port plan.topology (store_name plan a) past stops new given → store.is_down new ≡ is_none given
      → (port.state (store.disk_of t)).faults ≤ (port.state (store.disk_of new)).faults → (given ≡ None → Rose (port.state (store.disk_of t)).faults (port.state (store.disk_of new)).faults)
      → HasSettled port plan s a staged (Store new) given
  settles new given told down counted cause =
      record {
        given_are = by given told.emits;
        stands = record {
          kind = kind;
          stands = subst (λ (p : Past Message). store.StandsFor port plan.topology (store_name plan a) p new) (sym (settled_past given)) told.stands;
          down = down ∙ settled_down given;
          counted = count given cause;
        };
      }
    where
      by : (given : Option (List Unsent)) → IfSome given (IsUnsent (store.emits_next plan.topology a) past stops) → AreGiven cluster s a staged given
      by None h = tt
      by (Some given) h = store_told cluster a staged s past.stopped false given kind (sound_standing cluster s is.sound) may h

      count : (given : Option (List Unsent)) → (given ≡ None → Rose (port.state (store.disk_of t)).faults (port.state (store.disk_of new)).faults)
          → downs_in a (settled_if (is_none given) cluster s a staged).own ≤ (port.state (store.disk_of new)).faults
      count None cause = rose_counted a s.own (port.state (store.disk_of t)).faults (port.state (store.disk_of new)).faults is.few.0.1 is.stands.counted (cause refl)
      count (Some given) cause = subst (λ d. d ≤ (port.state (store.disk_of new)).faults) (sym (all_downs cluster a kind staged s)) (le_on is.stands.counted counted)

  pub settles_strictly : (disks : Disks) (new : StoreActor D) (given : Option (List Unsent))
      → (is_none given ≡ fails_append (disks.armed a))
      × store.IsStrictAt port plan.topology (store_name plan a) (after_append (disks.armed a)) (passed_in (disks.armed a)) (after_group given past stops) new
      → HasSettledStrictly port plan (over_disks s disks) a staged (Store new) given
  settles_strictly disks new given h =
      record {
        fails = h.0;
        strictly =
            subst (λ (p : Past Message). store.IsStrictAt port plan.topology (store_name plan a) (later.armed a) (later.passed a) p new) (sym (settled_past given))
            (subst (λ calls. store.IsStrictAt port plan.topology (store_name plan a) calls (later.passed a) (after_group given past stops) new)
            (sym (armed_after true a disks refl))
            (subst (λ calls. store.IsStrictAt port plan.topology (store_name plan a) (after_append (disks.armed a)) calls (after_group given past stops) new)
            (sym (passed_after true a disks refl)) h.1));
      }
    where
      later : Disks
      later = after_step true a disks
