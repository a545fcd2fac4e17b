-- The messages of a group are entered one after another, after others' items.
use Rattle.std.proofs.Common.{◌≡◌, ◌≢◌, ℕ, zero, suc, ◌+◌, ◌<◌, ◌≤◌, ◌^◌, Bool, true, false, ◌||◌, List, [], ◌∷◌, ◌++◌, length, map, take, reverse, Some, Contains, refl, sym, ◌∙◌, ap, subst, arith, eqb-true}
use Rattle.std.specs.Prelude.{All, sum, sum_by}
use Rattle.std.specs.List.{list_any}
use Rattle.std.proofs.lemmas.List.{reverse-append, append_assoc}
use Rattle.std.proofs.lemmas.List.Elements.{All-nil, All-cons}
use Rattle.std.proofs.lemmas.List.Sums.{sum_by-cons}
use Rattle.std.proofs.lemmas.Bool.{true≢false}
use Rattle.acc_stamp.specs.declared.actors.Actor.{Actor}
use Rattle.acc_stamp.proofs.Rising.{each_weaker}
use Rattle.acc_ports.specs.declared.disk.Disk.{Ghosts}
use Rattle.acc_message.specs.declared.item.Item.{Item}
use Rattle.acc_message.specs.declared.item.Item.TheVariants.{Step as StepItem}
use Rattle.acc_message.specs.declared.entry.Event.{Event}
use Rattle.acc_message.specs.declared.entry.Event.TheVariants.{Begin, Recover, Slow, Message as TakesMessage, Restart}
use Rattle.acc_message.specs.declared.entry.Emitted.{Emitted}
use Rattle.acc_message.specs.Items.{sent_in}
use Rattle.acc_message.specs.NodeRules.{Act, Deed}
use Rattle.acc_message.specs.Run.{Cluster, act_of, deeds_of, emits, is_down}
use Rattle.acc_message_code.specs.Short.{IsShortMessage}
use Rattle.acc_message_code.specs.Weight.{weight_of}
use Rattle.acc_payloads.specs.Items.{payload_by, payloads_in}
use Rattle.acc_safety.specs.Calm.{event_takes, item_takes}
use Rattle.acc_run_laws.specs.Asks.{emits_if}
use Rattle.acc_run_laws.specs.Sends.{AreFew, AreSendable}
use Rattle.acc_run_laws.proofs.Sendable.{next_sendable}
use Rattle.acc_payloads.specs.declared.stops.Unsent.{Unsent}
use Rattle.acc_schedule.specs.Actors.{actors}
use Rattle.acc_schedule.specs.Content.{Content}
use Rattle.acc_schedule.specs.declared.plan.Step.{Step}
use Rattle.acc_pasts.specs.Entries.{emitted_for, entering, MayTake}
use Rattle.acc_pasts.specs.Pasts.{IsUntouched, DidMore}
use Rattle.acc_pasts.specs.Stopped.{IsSameStep}
use Rattle.acc_pasts.proofs.Pasts.{untouched_on, did_more}
use Rattle.acc_pasts.proofs.Sound.{sound_standing}
use Rattle.acc_pasts.proofs.Stops.{act_still, same_by_deeds}
use Rattle.acc_schedule_runs.specs.Situations.{Situation, whole}
use Rattle.acc_schedule_runs.specs.Moves.{event_in, entry_of, entered, entered_all}
use Rattle.acc_schedule_runs.specs.Schedules.{cluster_of}
use Rattle.acc_schedule_runs.specs.Disks.{fresh_disks}
use Rattle.acc_actors.specs.declared.slot.Slot.{Slot}
use Rattle.acc_actors.specs.Pasts.{stops_in}
use Rattle.acc_actors.specs.Slots.{SlotStands, IsStrictSlot}
use Rattle.acc_actors.specs.Asked.{AreSteps}
use Rattle.acc_actors.proofs.Apart.{IsApart}
use Rattle.acc_actors.proofs.Slots.{slot_apart, strict_apart}
use Rattle.acc_free_laws.specs.Commands.{is_message}
use Rattle.acc_free_laws.specs.FreeRun.{AreOthers, IsFreeRun, IsUntaken, is_plain_event, alone}
use Rattle.acc_free_laws.specs.Serving.{IsServing, HasGone}
use Rattle.acc_free_laws.proofs.Alone.{alone_whole, alone_event, alone_entered, entry_is}
use Rattle.acc_free_laws.proofs.Over.{turn_fits, gone_over, serving_over}
use Rattle.acc_free_laws.proofs.Others.{untouched_by, may_over}
use Rattle.acc_free_laws.proofs.Serving.{each_both, serving_entered}
use Rattle.acc_free_laws.proofs.Going.{message_went}
use Rattle.acc_tape.specs.ItemViews.{actor_of_item}
use Rattle.acc_desk.specs.Desks.{IsAt, item_of}
use Rattle.acc_desk.specs.Groups.{to_enter, AreWeighed, MayJoin, AreJoined, IsEntering, item_of_unsent}
use Rattle.acc_desk.proofs.Stepping.{step_on}

-- ---- what may be taken, after others' items

pub joined_on : (plan : Content) (a : Actor) (seen others : List Item) (left : List Step) (events : List Event) → AreOthers a others → IsFreeRun plan (others ++ seen)
    → AreJoined plan seen a left events → AreJoined plan (others ++ seen) a left events
joined_on plan a seen others left events apart free h =
    record {
      each = each_weaker (MayJoin plan seen a left) (MayJoin plan (others ++ seen) a left) events
          (λ event one. record { act = one.act; may = step_on plan a seen others event one.act left left apart free one.may; message = one.message }) h.each;
      different = h.different;
    }

-- ---- and after an entry of its own

plain_message : (event : Event) → is_message event ≡ true → is_plain_event event ≡ true
plain_message (TakesMessage number) is = refl
plain_message (Begin txn) is = absurd (true≢false (sym is))
plain_message (Recover txn) is = absurd (true≢false (sym is))
plain_message (Slow txn) is = absurd (true≢false (sym is))
plain_message (Restart kept) is = absurd (true≢false (sym is))

may_behind : (cluster : Cluster) (items : List Item) (item : Item) (a : Actor) (event : Event) (act : Act) → is_message event ≡ true → MayTake cluster items a event act → MayTake cluster (item ∷ items) a event act
may_behind cluster items item a (TakesMessage number) act is may = record { act_is = act_still cluster items item (TakesMessage number) act may.act_is; place = may.place }
may_behind cluster items item a (Begin txn) act is may = absurd (true≢false (sym is))
may_behind cluster items item a (Recover txn) act is may = absurd (true≢false (sym is))
may_behind cluster items item a (Slow txn) act is may = absurd (true≢false (sym is))
may_behind cluster items item a (Restart kept) act is may = absurd (true≢false (sym is))

-- another event takes another message
takes_another : (number : ℕ) (one : Event) → one ≢ TakesMessage number → event_takes number one ≡ false
takes_another number (Begin txn) apart = refl
takes_another number (Recover txn) apart = refl
takes_another number (Slow txn) apart = refl
takes_another number (TakesMessage n) apart = by (event_takes number (TakesMessage n)) refl
  where
    by : (takes : Bool) → event_takes number (TakesMessage n) ≡ takes → takes ≡ false
    by true is = absurd (apart (ap TakesMessage (eqb-true n number is)))
    by false is = refl
takes_another number (Restart kept) apart = refl

untaken_behind : (cluster : Cluster) (items : List Item) (a : Actor) (event other : Event) → event ≢ other → IsUntaken items other → IsUntaken (entering cluster items a event false ∷ items) other
untaken_behind cluster items a event (TakesMessage number) apart none =
    ap (λ b. b || list_any (item_takes number) items) (takes_another number event apart) ∙ none
untaken_behind cluster items a event (Begin txn) apart none = tt
untaken_behind cluster items a event (Recover txn) apart none = tt
untaken_behind cluster items a event (Slow txn) apart none = tt
untaken_behind cluster items a event (Restart kept) apart none = tt

-- ---- one entry on both sides

module _ (cluster : Cluster) (before items : List Item) (a : Actor) (event : Event) (act : Act) (past : IsUntouched cluster before items a)
    (mine : MayTake cluster before a event act) (may : MayTake cluster items a event act) where
  step_same : IsSameStep cluster before items a event
  step_same = same_by_deeds cluster before items a event act past.deeds mine.act_is may.act_is

  pub entry_same : entering cluster before a event false ≡ entering cluster items a event false
  entry_same = ap (λ (m : Emitted). StepItem (record { actor = a; event = event; emitted = m; lost = false })) (sym step_same.emitted)

  emits_same : emits cluster items a act ≡ emits cluster before a act
  emits_same = sym (ap (emits_if cluster items a) may.act_is) ∙ step_same.emitted ∙ ap (emits_if cluster before a) mine.act_is

  pub untouched_both : IsUntouched cluster (entering cluster before a event false ∷ before) (entering cluster items a event false ∷ items) a
  untouched_both =
      let one = did_more cluster before a event act false mine in
      let two = did_more cluster items a event act false may in
      let payload =
      sym (ap (λ (m : Emitted). payload_by items a event m.notes) (ap (emits_if cluster items a) may.act_is))
      ∙ step_same.payload
      ∙ ap (λ (m : Emitted). payload_by before a event m.notes) (ap (emits_if cluster before a) mine.act_is) in
      record {
        deeds =
            two.deeds
            ∙ ap (λ (m : Emitted). record { act = act; emitted = m } ∷ deeds_of cluster a items) emits_same
            ∙ ap (λ (deeds : List Deed). record { act = act; emitted = emits cluster before a act } ∷ deeds) past.deeds
            ∙ sym one.deeds;
        payloads = two.payloads ∙ ap (λ p. payloads_in a items ++ p) payload ∙ ap (λ l. l ++ payload_by before a event (emits cluster before a act).notes) past.payloads ∙ sym one.payloads;
        downs = two.downs ∙ past.downs ∙ sym one.downs;
        down = two.down ∙ sym one.down;
        ends = two.ends ∙ sym one.ends;
      }

module _ {D : Type 0} (port : Ghosts D) (strict_run : Bool) (plan : Content) (a : Actor) (slot : Slot D) (left : List Step) where
  abbrev Entering : List Item → List Event → List Unsent → List ℕ → Type 0
  Entering items events unsent weights = IsEntering port strict_run plan a items slot (to_enter left events unsent weights)

  -- others' items leave the actor where it was
  pub entering_on : (items others : List Item) (events : List Event) (unsent : List Unsent) (weights : List ℕ) → AreOthers a others → IsFreeRun plan (others ++ items) → Entering items events unsent weights
      → Entering (others ++ items) events unsent weights
  entering_on items others events unsent weights apart free h =
      let cluster = cluster_of plan in
      let over = untouched_by cluster items a others apart in
      record {
        stopped = h.stopped;
        before = h.before;
        untouched = untouched_on cluster h.before items (others ++ items) a h.untouched over;
        none = h.none;
        stands = h.stands;
        steps = h.steps;
        weighed = h.weighed;
        could =
            each_both (λ (event : Event). (act : Act) × MayTake cluster h.before a event act × MayTake cluster items a event act) (MayJoin plan items a left)
            (λ (event : Event). (act : Act) × MayTake cluster h.before a event act × MayTake cluster (others ++ items) a event act) events
            (λ event one two. (one.0, one.1, may_over cluster items a event one.0 others apart free.run.stands (plain_message event two.message) one.2)) h.could h.joined.each;
        joined = joined_on plan a items others left events apart free h.joined;
        serving = serving_over plan items others a h.stopped apart h.stops free h.serving;
        stops = h.stops;
        gone = gone_over plan items others a h.stopped left apart h.gone;
        stayed = λ on. let s = h.stayed on in (s.0, s.1, over.downs ∙ s.2);
      }

  -- all were entered
  pub all_entered : (items : List Item) (unsent : List Unsent) (weights : List ℕ) → Entering items [] unsent weights → IsAt port strict_run plan a items slot left
  all_entered items unsent weights h =
      let cluster = cluster_of plan in
      let was : Situation = alone h.before h.stopped in
      let now : Situation = alone items h.stopped in
      let apart : IsApart cluster was now a = record {
        untouched =
            subst (λ l. IsUntouched cluster (whole was) l a) (sym (alone_whole items h.stopped))
            (subst (λ l. IsUntouched cluster l items a) (sym (alone_whole h.before h.stopped)) h.untouched);
        stop = ap (λ es. stops_in cluster now a es true) h.none ∙ sym (ap (λ es. stops_in cluster was a es true) h.none);
        downs = h.untouched.downs;
      } in
      record {
        stopped = h.stopped;
        stands = slot_apart plan was now a apart port slot h.stands;
        serving = h.serving;
        stops = h.stops;
        gone = h.gone;
        stayed = λ on.
            let s = h.stayed on in
            record { unarmed = strict_apart plan was now a apart port fresh_disks fresh_disks slot refl refl s.0; none = s.1; up = s.2 };
      }

  -- ---- the first of those that are left

  module _ (known : Contains (actors plan.topology) a) (items : List Item) (event : Event) (events : List Event) (one : Unsent) (unsent : List Unsent) (weight : ℕ) (weights : List ℕ)
      (h : Entering items (event ∷ events) (one ∷ unsent) (weight ∷ weights)) where
    abbrev pub first_item : Item
    first_item = item_of a one.event (Some one.emitted)

    abbrev was : Situation
    was = alone h.before h.stopped

    abbrev now : Situation
    now = alone items h.stopped

    made_is : first_item ≡ entry_of (cluster_of plan) was a event false
    made_is =
        ap (λ (e : Event). StepItem (record { actor = a; event = e; emitted = one.emitted; lost = false })) h.steps.0
        ∙ ap (λ (m : Emitted). StepItem (record { actor = a; event = event; emitted = m; lost = false })) h.steps.1

    pub first_is : first_item ≡ entering (cluster_of plan) items a event false
    first_is =
        made_is ∙ entry_is (cluster_of plan) was refl a event false
        ∙ entry_same (cluster_of plan) h.before items a event h.could.0.0 h.untouched h.could.0.1 h.could.0.2

    may_now : MayTake (cluster_of plan) (whole now) a (event_in now event) h.could.0.0
    may_now =
        subst (λ e. MayTake (cluster_of plan) (whole now) a e h.could.0.0) (sym (alone_event items h.stopped event))
        (subst (λ own. MayTake (cluster_of plan) own a event h.could.0.0) (sym (alone_whole items h.stopped)) h.could.0.2)

    up_now : is_down a (whole now) ≡ false
    up_now = ap (is_down a) (alone_whole items h.stopped) ∙ h.joined.each.0.may.up

    pub first_weighs : weight_of first_item ≤ weight
    first_weighs = let e = ap weight_of made_is in let w = h.weighed.0 in omega arith

    sendable : AreFew items → AreSendable one.emitted.out
    sendable few =
        let emitted : one.emitted ≡ emits (cluster_of plan) (whole now) a h.could.0.0 =
        h.steps.1
        ∙ ap (λ e. emits_if (cluster_of plan) (whole was) a (act_of (cluster_of plan) (whole was) e)) (alone_event h.before h.stopped event)
        ∙ ap (λ l. emitted_for (cluster_of plan) l a event) (alone_whole h.before h.stopped)
        ∙ sym (same_by_deeds (cluster_of plan) h.before items a event h.could.0.0 h.untouched.deeds h.could.0.1.act_is h.could.0.2.act_is).emitted
        ∙ ap (emits_if (cluster_of plan) items a) h.could.0.2.act_is
        ∙ ap (λ l. emits (cluster_of plan) l a h.could.0.0) (sym (alone_whole items h.stopped)) in
        subst (λ (m : Emitted). AreSendable m.out) (sym emitted)
        (next_sendable (cluster_of plan) (whole now) a h.could.0.0 (sound_standing (cluster_of plan) now h.serving.sound)
        (record { event = event_in now event; act_is = may_now.act_is; place = may_now.place }) h.serving.sound.few_bodies (subst AreFew (sym (alone_whole items h.stopped)) few))

    pub first_short : AreFew items → All IsShortMessage (sent_in first_item)
    first_short few = (sendable few).short

    -- after others' items too
    pub first_fits : (others : List Item) → AreOthers a others → IsFreeRun plan (others ++ items) → IsFreeRun plan (first_item ∷ others ++ items)
    first_fits others apart free =
        let m = h.joined.each.0.may in
        subst (λ item. IsFreeRun plan (item ∷ others ++ items)) (sym first_is)
        (turn_fits plan items others a event h.could.0.0 known apart h.could.0.2 m.plain m.kept m.up m.untaken free)

    -- ---- after it

    abbrev entered_item : Item
    entered_item = entering (cluster_of plan) items a event false

    was_on : entered (cluster_of plan) was a event false ≡ alone (entering (cluster_of plan) h.before a event false ∷ h.before) h.stopped
    was_on = alone_entered (cluster_of plan) h.before h.stopped a event false

    now_on : entered (cluster_of plan) now a event false ≡ alone (entered_item ∷ items) h.stopped
    now_on = alone_entered (cluster_of plan) items h.stopped a event false

    did_one : DidMore (cluster_of plan) items (entered_item ∷ items) a (record { act = h.could.0.0; emitted = emits (cluster_of plan) items a h.could.0.0 }) (payload_by items a event (emits (cluster_of plan) items a h.could.0.0).notes) false
    did_one = did_more (cluster_of plan) items a event h.could.0.0 false h.could.0.2

    join_behind : (other : Event) → event ≢ other → MayJoin plan items a left other → MayJoin plan (entered_item ∷ items) a left other
    join_behind other apart j =
        record {
          act = j.act;
          may = record {
            up = did_one.down;
            may = may_behind (cluster_of plan) items entered_item a other j.act j.message j.may.may;
            plain = j.may.plain;
            kept = j.may.kept;
            untaken = untaken_behind (cluster_of plan) items a event other apart j.may.untaken;
            turn = j.may.turn;
          };
          message = j.message;
        }

    rest_entered : Entering (entered_item ∷ items) events unsent weights
    rest_entered =
        let cluster = cluster_of plan in
        let first : Item = entering cluster h.before a event false in
        let m = h.joined.each.0.may in
        record {
          stopped = h.stopped;
          before = first ∷ h.before;
          untouched = untouched_both cluster h.before items a event h.could.0.0 h.untouched h.could.0.1 h.could.0.2;
          none = h.none;
          stands = subst (λ (t : Situation). SlotStands port plan (entered_all cluster t a events false) a slot) was_on h.stands;
          steps = subst (λ (t : Situation). AreSteps cluster t a events false unsent) was_on h.steps.2;
          weighed = subst (λ (t : Situation). AreWeighed cluster t a events weights) was_on h.weighed.1;
          could =
              each_both (λ (other : Event). (act : Act) × MayTake cluster h.before a other act × MayTake cluster items a other act) (MayJoin plan items a left)
              (λ (other : Event). (act : Act) × MayTake cluster (first ∷ h.before) a other act × MayTake cluster (entered_item ∷ items) a other act) events
              (λ other c j. (c.0, may_behind cluster h.before first a other c.0 j.message c.1, may_behind cluster items entered_item a other c.0 j.message c.2)) h.could.1 h.joined.each.1;
          joined = record {
            each = each_both (λ (other : Event). event ≢ other) (MayJoin plan items a left) (MayJoin plan (entered_item ∷ items) a left) events join_behind h.joined.different.0 h.joined.each.1;
            different = h.joined.different.1;
          };
          serving =
              subst (IsServing plan) now_on
              (serving_entered plan now h.serving a known event h.could.0.0 may_now m.plain m.kept up_now m.untaken);
          stops = h.stops;
          gone = subst (λ (t : Situation). HasGone plan t a left) now_on (message_went plan now a event false left h.joined.each.0.message (λ _. m.up) h.gone);
          stayed = λ on.
              let s = h.stayed on in (
                subst (λ (t : Situation). IsStrictSlot port plan (entered_all cluster t a events false) fresh_disks a slot) was_on s.0,
                s.1,
                did_one.downs ∙ s.2,
              );
        }

    pub first_entered : Entering (first_item ∷ items) events unsent weights
    first_entered = subst (λ item. Entering (item ∷ items) events unsent weights) (sym first_is) rest_entered

  -- ---- all of them, one after another

  -- the first one stands nearest to what was there before
  turned : (item : Item) (others items : List Item) → reverse (item ∷ others) ++ items ≡ reverse others ++ item ∷ items
  turned item others items = ap (λ l. l ++ items) (reverse-append (item ∷ []) others) ∙ append_assoc (reverse others) (item ∷ []) items

  module _ (known : Contains (actors plan.topology) a) where
    -- each front of them fits
    pub all_fit : (items : List Item) (events : List Event) (unsent : List Unsent) (weights : List ℕ) → Entering items events unsent weights → IsFreeRun plan items → (k : ℕ)
        → IsFreeRun plan (reverse (take k (map (item_of_unsent a) unsent)) ++ items)
    all_fit items events unsent weights h free zero = free
    all_fit items [] [] weights h free (suc k) = free
    all_fit items [] (one ∷ unsent) weights h free (suc k) = absurd h.steps
    all_fit items (event ∷ events) [] weights h free (suc k) = absurd h.steps
    all_fit items (event ∷ events) (one ∷ unsent) [] h free (suc k) = absurd h.weighed
    all_fit items (event ∷ events) (one ∷ unsent) (weight ∷ weights) h free (suc k) =
        subst (IsFreeRun plan) (sym (turned (item_of_unsent a one) (take k (map (item_of_unsent a) unsent)) items))
        (all_fit (item_of_unsent a one ∷ items) events unsent weights (first_entered known items event events one unsent weight weights h) (first_fits known items event events one unsent weight weights h [] tt free) k)

    pub all_short : (items : List Item) (events : List Event) (unsent : List Unsent) (weights : List ℕ) → Entering items events unsent weights → length items + length unsent < 2 ^ 31
        → All (λ item. All IsShortMessage (sent_in item)) (map (item_of_unsent a) unsent)
    all_short items [] [] weights h few = All-nil (λ item. All IsShortMessage (sent_in item))
    all_short items [] (one ∷ unsent) weights h few = absurd h.steps
    all_short items (event ∷ events) [] weights h few = absurd h.steps
    all_short items (event ∷ events) (one ∷ unsent) [] h few = absurd h.weighed
    all_short items (event ∷ events) (one ∷ unsent) (weight ∷ weights) h few =
        All-cons (λ item. All IsShortMessage (sent_in item)) (item_of_unsent a one) (map (item_of_unsent a) unsent) (first_short known items event events one unsent weight weights h (omega arith))
        (all_short (item_of_unsent a one ∷ items) events unsent weights (first_entered known items event events one unsent weight weights h) (omega arith))

    pub all_weigh : (items : List Item) (events : List Event) (unsent : List Unsent) (weights : List ℕ) → Entering items events unsent weights → sum_by weight_of (map (item_of_unsent a) unsent) ≤ sum weights
    all_weigh items [] [] weights h = omega arith
    all_weigh items [] (one ∷ unsent) weights h = absurd h.steps
    all_weigh items (event ∷ events) [] weights h = absurd h.steps
    all_weigh items (event ∷ events) (one ∷ unsent) [] h = absurd h.weighed
    all_weigh items (event ∷ events) (one ∷ unsent) (weight ∷ weights) h =
        let first = first_weighs known items event events one unsent weight weights h in
        let others = all_weigh (item_of_unsent a one ∷ items) events unsent weights (first_entered known items event events one unsent weight weights h) in
        let made = sum_by-cons weight_of (item_of_unsent a one) (map (item_of_unsent a) unsent) in
        let weighed = sum_by-cons (λ n. n) weight weights in
        omega arith

    -- the actor stands after all of them
    pub all_at : (items : List Item) (events : List Event) (unsent : List Unsent) (weights : List ℕ) → Entering items events unsent weights
        → IsAt port strict_run plan a (reverse (map (item_of_unsent a) unsent) ++ items) slot left
    all_at items [] [] weights h = all_entered items [] weights h
    all_at items [] (one ∷ unsent) weights h = absurd h.steps
    all_at items (event ∷ events) [] weights h = absurd h.steps
    all_at items (event ∷ events) (one ∷ unsent) [] h = absurd h.weighed
    all_at items (event ∷ events) (one ∷ unsent) (weight ∷ weights) h =
        subst (λ all. IsAt port strict_run plan a all slot left) (sym (turned (item_of_unsent a one) (map (item_of_unsent a) unsent) items))
        (all_at (item_of_unsent a one ∷ items) events unsent weights (first_entered known items event events one unsent weight weights h))

-- each is the actor's
pub all_own : (a : Actor) (n : ℕ) (unsent : List Unsent) → n ≡ a.0 → All (λ item. actor_of_item item ≡ n) (map (item_of_unsent a) unsent)
all_own a n [] is = All-nil (λ item. actor_of_item item ≡ n)
all_own a n (one ∷ unsent) is = All-cons (λ item. actor_of_item item ≡ n) (item_of_unsent a one) (map (item_of_unsent a) unsent) (sym is) (all_own a n unsent is)
