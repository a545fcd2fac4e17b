-- Of two rounds of a transaction at one node, one after the other, the second isn't ended by a greater ballot.
use Rattle.std.proofs.Common.{◌≡◌, ℕ, suc, ◌<◌, ◌≤◌, true, false, not, List, [], ◌∷◌, ◌++◌, length, Option, None, Some, refl, sym, ◌∙◌, ap, subst, arith, ◌⊎◌, inl, inr, ⊎_elim}
use Rattle.std.specs.List.{list_all, slice_get}
use Rattle.std.proofs.lemmas.Bool.{true≢false, and_parts, false_from_ne_true}
use Rattle.acc_stamp.specs.declared.stamps.TxnId.{TxnId}
use Rattle.acc_stamp.specs.declared.stamps.Ballot.{Ballot}
use Rattle.acc_stamp.specs.declared.actors.Actor.{Actor}
use Rattle.acc_stamp.specs.Actor.{actor_of, node_of, home_of}
use Rattle.acc_stamp.specs.Stamp.{ballot_eq, ballot_lt, zero_ballot}
use Rattle.acc_stamp.specs.History.{seen_since_restart}
use Rattle.acc_stamp.proofs.Order.{ballot_order, asym, lt-le-trans, stamp_lt-from_h, le-trans}
use Rattle.acc_stamp.proofs.History.{draw_passes_seen}
use Rattle.acc_txn.specs.declared.parts.BodyParts.{BodyParts}
use Rattle.acc_message.specs.declared.message.Message.{Message}
use Rattle.acc_message.specs.declared.message.Message.TheVariants.{Recover, Nack}
use Rattle.acc_message.specs.declared.entry.Entry.{Entry}
use Rattle.acc_message.specs.declared.entry.Emitted.{Emitted}
use Rattle.acc_message.specs.declared.item.Item.{Item}
use Rattle.acc_message.specs.declared.item.Item.TheVariants.{Step}
use Rattle.acc_message.specs.Fields.{to_of, id_of, ballot_of, top_of}
use Rattle.acc_message.specs.Items.{sent_of, message_at, id_of_txn}
use Rattle.acc_message.specs.Shares.{stores_used}
use Rattle.acc_message.specs.Taken.{Taken, body_in}
use Rattle.acc_message.specs.BallotRules.{promise_of}
use Rattle.acc_message.specs.NodeRules.{Act, Begins, Recovers, Slows, Takes, Restarts, Deed, is_restart, clock_events, next_draw, next_ballot}
use Rattle.acc_message.specs.Run.{Cluster, clock_start, act_of, deeds_of, taken_from, taken_of, is_node, recovers, is_restart_event}
use Rattle.acc_safety.specs.Places.{IsIn, First, Later, StandsAt, Here, Back, IsPast}
use Rattle.acc_safety.specs.Histories.{Sending, Sender, IsStore, IsNode, NodeStep}
use Rattle.acc_safety.specs.Valid.{IsStanding}
use Rattle.acc_safety.proofs.PlaceOrder.{StandsAt-whole, StandsAt-IsPast, IsPast-trans, IsPast-rest, IsIn-append_cases, each_at, only as only_one}
use Rattle.acc_safety.proofs.Bridge.{EachStands-past, node_step, taking_deed, taken_was_sent, sender, emits_at, each_emits, taken_of-past, deeds_of-past, TakingDeed}
use Rattle.acc_safety.proofs.BodiesBegun.{recover_body}
use Rattle.acc_safety.proofs.Frame.{past_of, bodies_are_begun, store_sent}
use Rattle.acc_safety.proofs.Draws.{DrawsBallot, earlier_draw}
use Rattle.acc_calm.proofs.Delivered.{get-past, mapped, entry_deed, all_in}
use Rattle.acc_calm.proofs.ZeroBallots.{is_request, store_asks_nothing}
use Rattle.std.specs.Option.{option_map}
use Rattle.acc_actor_laws.proofs.OpeningFacts.{some_is}
use Rattle.acc_safety.specs.Polls.{IsBody}
use Rattle.acc_message.specs.declared.entry.Event.{Event}
use Rattle.acc_message.specs.declared.entry.Event.TheVariants.{Begin as BeginEvent, Recover as RecoverEvent, Slow as SlowEvent, Message as TakesMessage, Restart as RestartEvent}
use Rattle.acc_delivered.proofs.RoundsOwn.{sent_by_later, not_less}
use Rattle.acc_delivered.proofs.Started.{e_at, views_sent, home_is, is_of_node, it, it_at, past, body, ballot_is, restarts_alone}
use Rattle.acc_delivered.proofs.Resting.{store_emitted, delivered}
use Rattle.acc_delivered.proofs.Decided.{taken_here}
use Rattle.acc_delivered.specs.Stretches.{item_takes_from, TakesOwn, TakesAll, event_takes_from}
use Rattle.acc_delivered.specs.Rounds.{is_delivery, IsRecover, is_taking}
use Rattle.acc_delivered.specs.Ends.{is_ended}
use Rattle.acc_delivered.specs.Laws.{is_read_or_later, RoundsSendTheirOwn, SecondsAreNotEnded}
use Rattle.acc_delivered.proofs.Asked.{past_length}
use Rattle.acc_delivered.proofs.Addressed.{to_store}
use Rattle.acc_delivered.proofs.Deliveries.{place_cases, append_is_past, TakenBehind}
use Rattle.acc_delivered.proofs.Answering.{GrantedIn, promise_granted}
use Rattle.acc_delivered.proofs.Refusals.{was_refused, in_other, promise_past, granted_kept, granted_request}

-- ---- clocks

-- what a node saw since, without a restart, is below its next draw
seen_there : (deed : Deed) (past deeds : List Deed) (m : Message) → StandsAt deed past deeds → deed.act ≡ Takes m
    → ((d : Deed) (p : List Deed) → StandsAt d p deeds → IsPast (deed ∷ past) p → is_restart d.act ≡ false) → IsIn (top_of m) (seen_since_restart (clock_events deeds))
seen_there deed past deeds m (Here d rest) act_is up =
    subst (λ act. IsIn (top_of m) (seen_since_restart (clock_events (record { act = act; emitted = d.emitted } ∷ rest)))) (sym act_is)
    (First (top_of m) (seen_since_restart (clock_events rest)))
seen_there deed past deeds m (Back d newer rest others there) act_is up =
    by newer.act (up newer others (Here newer others) (StandsAt-IsPast d rest others there))
    (seen_there d rest others m there act_is (λ k p at since. up k p (Back k newer p others at) since))
  where
    by : (act : Act) → is_restart act ≡ false → IsIn (top_of m) (seen_since_restart (clock_events others))
        → IsIn (top_of m) (seen_since_restart (clock_events (record { act = act; emitted = newer.emitted } ∷ others)))
    by (Begins txn body) none h = h
    by (Recovers x body) none h = h
    by (Slows x) none h = h
    by (Takes k) none h = Later (top_of m) (top_of k) (seen_since_restart (clock_events others)) h
    by Restarts none h = absurd (true≢false none)

draw_above : (node start : ℕ) (deeds : List Deed) (m : Message) → IsIn (top_of m) (seen_since_restart (clock_events deeds)) → top_of m < (next_draw node start deeds).h
draw_above node start deeds m there =
    each_at (λ n. n < (next_draw node start deeds).h) (top_of m) (seen_since_restart (clock_events deeds)) (draw_passes_seen node start (clock_events deeds)) there

nack_top : (from to : Actor) (id : TxnId) (b promised : Ballot) → promised.0.h ≤ top_of (Nack from to id b promised)
nack_top from to id b promised = omega arith

-- ---- the two rounds

-- an event that takes a message
pub takes_number : (cluster : Cluster) (earlier : List Item) (event : Event) (m : Message) → act_of cluster earlier event ≡ Some (Takes m)
    → (n : ℕ) × (event ≡ TakesMessage n) × (message_at earlier n ≡ Some m)
takes_number cluster earlier (TakesMessage n) m is =
    let k = mapped (message_at earlier n) (Takes m) is in (n, refl, k.1.0 ∙ ap Some (same k.1.1))
  where
    same : {i j : Message} → Takes i ≡ Takes j → j ≡ i
    same e = cc
takes_number cluster earlier (BeginEvent txn) m is = absurd (begins_nothing (slice_get cluster.bodies txn) is)
  where
    begins_nothing : (o : Option BodyParts) → option_map (Begins txn) o ≡ Some (Takes m) → ⊥
    begins_nothing None e = cc
    begins_nothing (Some body) e = cc
takes_number cluster earlier (RecoverEvent txn) m is = absurd (recovers_nothing (id_of_txn earlier txn) (slice_get cluster.bodies txn) is)
  where
    recovers_nothing : (o : Option TxnId) (p : Option BodyParts) → recovers o p ≡ Some (Takes m) → ⊥
    recovers_nothing None p e = cc
    recovers_nothing (Some y) None e = cc
    recovers_nothing (Some y) (Some body) e = cc
takes_number cluster earlier (SlowEvent txn) m is = absurd (slows_nothing (id_of_txn earlier txn) is)
  where
    slows_nothing : (o : Option TxnId) → option_map Slows o ≡ Some (Takes m) → ⊥
    slows_nothing None e = cc
    slows_nothing (Some y) e = cc
takes_number cluster earlier (RestartEvent kept) m is = absurd (restarts_nothing is)
  where
    restarts_nothing : Some Restarts ≡ Some (Takes m) → ⊥
    restarts_nothing e = cc

-- what an item of a stretch takes was sent in it
pub taken_own : (cluster : Cluster) (base later : List Item) (items : List Item) (t : Entry) (earlier : List Item) (m : Message) → IsPast earlier (later ++ base)
    → IsIn (Step t) later → TakesOwn base later → act_of cluster earlier t.event ≡ Some (Takes m) → Sending later m
taken_own cluster base later items t earlier m within there own act_is =
    let k = takes_number cluster earlier t.event m act_is in
    let from = all_in (item_takes_from (length (sent_of base))) later (Step t) own there in
    sent_by_later later base k.0 m (not_less k.0 (length (sent_of base)) (subst (λ event. event_takes_from (length (sent_of base)) event ≡ true) k.1 from))
    (get-past earlier (later ++ base) k.0 m within k.2)

module _ (cluster : Cluster) (base ds ds2 : List Item) (e e2 : Entry) (x : TxnId) (b c : Ballot)
    (standing : IsStanding cluster ((ds2 ++ Step e2 ∷ []) ++ ((ds ++ Step e ∷ []) ++ base))) (recover : IsRecover e.actor x b e) (again : IsRecover e2.actor x c e2)
    (same_node : e2.actor ≡ e.actor) (only : list_all is_delivery ds ≡ true) (own : TakesOwn base (ds ++ Step e ∷ [])) (all : TakesAll base (ds ++ Step e ∷ []))
    (own2 : TakesOwn ((ds ++ Step e ∷ []) ++ base) (ds2 ++ Step e2 ∷ []))
    (first_own : (m : Message) → Sending (ds ++ Step e ∷ []) m → (is_read_or_later m ≡ true) ⊎ ((id_of m ≡ x) × (ballot_of m ≡ b)))
    (second_own : (m : Message) → Sending (ds2 ++ Step e2 ∷ []) m → (is_read_or_later m ≡ true) ⊎ ((id_of m ≡ x) × (ballot_of m ≡ c))) where
  abbrev first : List Item
  first = ds ++ Step e ∷ []

  abbrev second : List Item
  second = ds2 ++ Step e2 ∷ []

  abbrev middle : List Item
  middle = first ++ base

  abbrev whole : List Item
  whole = second ++ middle

  stands_middle : IsStanding cluster middle
  stands_middle = record { valid = standing.valid; stands = EachStands-past cluster middle whole (append_is_past second middle) standing.stands }

  abbrev start_of : ℕ
  start_of = clock_start cluster.starts (node_of e.actor)

  -- the second ballot is drawn where the first was
  second_drawn : next_ballot (node_of e.actor) start_of (deeds_of cluster e.actor middle) ≡ c
  second_drawn =
      subst (λ a. next_ballot (node_of a) (clock_start cluster.starts (node_of a)) (deeds_of cluster a middle) ≡ c) same_node
      (ballot_is cluster middle ds2 e2 x c standing again)

  first_lower : ballot_lt b c ≡ true
  first_lower =
      subst (λ d. ballot_lt b d ≡ true) second_drawn
      (subst (λ d. ballot_lt d (next_ballot (node_of e.actor) start_of (deeds_of cluster e.actor middle)) ≡ true) (ballot_is cluster base ds e x b stands_middle recover)
      (earlier_draw (node_of e.actor) start_of (it cluster base ds e x b stands_middle recover) (past cluster base ds e x b stands_middle recover) (deeds_of cluster e.actor middle)
      (it_at cluster base ds e x b stands_middle recover) (DrawsBallot x (body cluster base ds e x b stands_middle recover))))

  module _ (store : Actor) (store_is : is_node store ≡ false) (history : List Taken) (within : IsPast history (taken_of cluster store whole)) (p : Ballot)
      (promised : promise_of history x ≡ p) (above : ballot_lt c p ≡ true) where
    nonzero : ballot_eq p zero_ballot ≡ false
    nonzero = false_from_ne_true (ballot_eq p zero_ballot) (λ zero. true≢false (sym (subst (λ d. ballot_lt c d ≡ true) ((ballot_order.decides p zero_ballot).0 zero) above) ∙ below_none))
      where
        below_none : ballot_lt c zero_ballot ≡ false
        below_none = grind arith

    g : GrantedIn x p history
    g = promise_granted x p history promised nonzero

    g_at : StandsAt g.step g.past (taken_of cluster store whole)
    g_at = StandsAt-whole g.step g.past history (taken_of cluster store whole) g.at within

    request : (id_of g.step.message ≡ x) × (is_request g.step.message ≡ true) × (is_read_or_later g.step.message ≡ false) × ((body : BodyParts) × (body_in g.step.message ≡ Some body))
    request = granted_request x g.step.message g.step.sent g.granted

    not_in : (d : Ballot) → (d ≡ p → ⊥) → ((is_read_or_later g.step.message ≡ true) ⊎ ((id_of g.step.message ≡ x) × (ballot_of g.step.message ≡ d))) → ⊥
    not_in d differs (inl read) = true≢false (sym read ∙ request.2)
    not_in d differs (inr mine) = differs (sym mine.1 ∙ g.of_ballot)

    not_second : c ≡ p → ⊥
    not_second same = true≢false (sym (subst (λ d. ballot_lt c d ≡ true) (sym same) above) ∙ ballot_order.irrefl c)

    not_first : b ≡ p → ⊥
    not_first same = true≢false (sym (subst (λ d. ballot_lt c d ≡ true) (sym same) above) ∙ asym ballot_order b c first_lower)

    -- so it was granted before both rounds
    d : TakingDeed (deeds_of cluster store whole) g.step g.past
    d = taking_deed (deeds_of cluster store whole) g.step g.past g_at

    n : NodeStep cluster store whole d.deed d.before
    n = node_step cluster store whole standing.stands d.deed d.before d.at

    takes_it : act_of cluster n.earlier n.entry.event ≡ Some (Takes g.step.message)
    takes_it = n.act_is ∙ ap Some d.act_is

    in_base : StandsAt (Step n.entry) n.earlier base
    in_base = by (place_cases (Step n.entry) n.earlier second middle n.at)
      where
        in_middle : (IsIn (Step n.entry) first × IsPast base n.earlier) ⊎ StandsAt (Step n.entry) n.earlier base → IsPast n.earlier middle → StandsAt (Step n.entry) n.earlier base
        in_middle (inl now) inside =
            absurd (not_in b not_first (first_own g.step.message (taken_own cluster base first whole n.entry n.earlier g.step.message inside now.0 own takes_it)))
        in_middle (inr old) inside = old

        by : (IsIn (Step n.entry) second × IsPast middle n.earlier) ⊎ StandsAt (Step n.entry) n.earlier middle → StandsAt (Step n.entry) n.earlier base
        by (inl now) =
            absurd (not_in c not_second
            (second_own g.step.message (taken_own cluster middle second whole n.entry n.earlier g.step.message (past_of (Step n.entry) n.earlier whole n.at) now.0 own2 takes_it)))
        by (inr old) = in_middle (place_cases (Step n.entry) n.earlier first base old) (past_of (Step n.entry) n.earlier middle old)

    granted_before : IsPast (g.step ∷ g.past) (taken_of cluster store base)
    granted_before =
        subst (λ k. IsPast k (taken_of cluster store base))
        (taken_here cluster store n.earlier n.entry g.step.message n.actor_is takes_it
        ∙ ap (λ sent. record { message = g.step.message; sent = sent } ∷ taken_of cluster store n.earlier) (ap (λ (w : Emitted). w.out) n.emitted_is ∙ d.out_is)
        ∙ ap (λ k. g.step ∷ k) (ap taken_from n.past_is ∙ d.past_is))
        (taken_of-past cluster store (Step n.entry ∷ n.earlier) base (StandsAt-IsPast (Step n.entry) n.earlier base in_base))

    -- the store is one of those that the first round asks
    abbrev its_body : BodyParts
    its_body = body cluster base ds e x b stands_middle recover

    sending : Sending middle g.step.message
    sending =
        let was = taken_was_sent cluster store whole d.deed d.before g.step.message n d.act_is in
        record {
          entry = was.sending.entry;
          earlier = was.sending.earlier;
          at =
              StandsAt-whole (Step was.sending.entry) was.sending.earlier n.earlier middle was.sending.at
              (IsPast-trans n.earlier base middle (past_of (Step n.entry) n.earlier base in_base) (append_is_past first base));
          sent = was.sending.sent;
        }

    addressed : to_of g.step.message ≡ store
    addressed = (taken_was_sent cluster store whole d.deed d.before g.step.message n d.act_is).addressed

    among : IsIn store (stores_used cluster.layout its_body)
    among = by (sender cluster middle g.step.message stands_middle.stands sending)
      where
        brought : IsBody cluster middle x request.3.0
        brought =
            subst (λ y. IsBody cluster middle y request.3.0) request.0 (bodies_are_begun cluster middle stands_middle.stands g.step.message request.3.0 sending request.3.1)

        same_body : request.3.0 ≡ its_body
        same_body =
            some_is request.3.0 its_body
            (sym brought
            ∙ recover_body cluster middle stands_middle.stands e.actor (is_of_node cluster base ds e x b stands_middle recover) (it cluster base ds e x b stands_middle recover)
            (past cluster base ds e x b stands_middle recover) x its_body (it_at cluster base ds e x b stands_middle recover) refl)

        by : Sender cluster middle g.step.message → IsIn store (stores_used cluster.layout its_body)
        by (IsStore f) =
            absurd (true≢false (sym request.1 ∙ store_asks_nothing cluster.layout _ f.past f.step.message g.step.message (store_sent cluster middle _ g.step.message stands_middle.stands f)))
        by (IsNode f) =
            subst (λ k. IsIn store (stores_used cluster.layout k)) same_body
            (subst (λ k. IsIn k (stores_used cluster.layout request.3.0)) addressed
            (to_store cluster.layout _ _ f.past f.deed.act g.step.message request.3.0
            (subst (λ (w : Emitted). IsIn g.step.message w.out)
            (emits_at cluster.layout _ _ (deeds_of cluster _ middle) f.deed f.past (each_emits cluster _ middle stands_middle.stands f.is_node) f.at) f.sent) request.3.1))

    -- ---- so it refused the first round too

    abbrev asker : Actor
    asker = actor_of (node_of e.actor) 0

    view_request : Message
    view_request = Recover asker store x b its_body

    asked : TakenBehind cluster (Step e ∷ base) middle view_request
    unfolding view_request
    asked =
        delivered cluster base ds e x b stands_middle recover all view_request refl refl
        (record { entry = e; earlier = base; at = e_at cluster base ds e x b stands_middle recover; sent = views_sent cluster base ds e x b stands_middle recover store among })

    now_promised : Ballot
    now_promised = promise_of (taken_of cluster store asked.before) x

    still_above : ballot_lt now_promised p ≡ false
    unfolding now_promised
    still_above =
        le-trans ballot_order p (promise_of (g.step ∷ g.past) x) now_promised
        (subst (λ k. ballot_lt (promise_of (g.step ∷ g.past) x) k ≡ false) g.of_ballot (granted_kept x g.step g.past g.granted))
        (promise_past x (g.step ∷ g.past) (taken_of cluster store asked.before)
        (IsPast-trans (g.step ∷ g.past) (taken_of cluster store base) (taken_of cluster store asked.before) granted_before
        (taken_of-past cluster store base asked.before (IsPast-rest (Step e) base asked.before asked.newer))))

    above_second : ballot_lt c now_promised ≡ true
    above_second = lt-le-trans ballot_order c p now_promised above still_above

    not_granted : ballot_lt now_promised b ≡ false
    not_granted = asym ballot_order b now_promised (ballot_order.trans b c now_promised first_lower above_second)

    refusal : Message
    refusal = Nack store (home_of x b) x b now_promised

    refusal_sent : IsIn refusal asked.entry.emitted.out
    unfolding refusal view_request now_promised
    refusal_sent =
        subst (IsIn refusal)
        (sym (store_emitted cluster middle asked.before asked.entry store view_request stands_middle.stands asked.at asked.actor_is store_is asked.act_is))
        (in_other refusal _ _ (ballot_lt now_promised b) not_granted (First refusal []))

    told : TakenBehind cluster (Step asked.entry ∷ asked.before) middle refusal
    unfolding refusal
    told =
        delivered cluster base ds e x b stands_middle recover all refusal refl refl
        (record { entry = asked.entry; earlier = asked.before; at = asked.at; sent = refusal_sent })

    at_node : told.entry.actor ≡ e.actor
    unfolding refusal
    at_node = told.actor_is ∙ home_is cluster base ds e x b stands_middle recover

    abbrev heard : Deed
    heard = record { act = Takes refusal; emitted = told.entry.emitted }

    heard_at : StandsAt heard (deeds_of cluster e.actor told.before) (deeds_of cluster e.actor middle)
    heard_at =
        subst (λ a. StandsAt heard (deeds_of cluster a told.before) (deeds_of cluster a middle)) at_node
        (entry_deed cluster middle told.before told.entry (Takes refusal) told.at told.act_is)

    base_before : IsPast base told.before
    base_before =
        IsPast-rest (Step e) base told.before
        (IsPast-trans (Step e ∷ base) asked.before told.before asked.newer (IsPast-rest (Step asked.entry) asked.before told.before told.newer))

    stays_up : (k : Deed) (q : List Deed) → StandsAt k q (deeds_of cluster e.actor middle) → IsPast (heard ∷ deeds_of cluster e.actor told.before) q → is_restart k.act ≡ false
    stays_up k q place since =
        let s = node_step cluster e.actor middle stands_middle.stands k q place in
        ⊎_elim (λ now. quiet s.entry s.earlier k s.act_is now.0)
        (λ old.
        absurd (short (past_length (heard ∷ deeds_of cluster e.actor told.before) (deeds_of cluster e.actor s.earlier) (subst (IsPast (heard ∷ deeds_of cluster e.actor told.before)) (sym s.past_is) since))
        (past_length (deeds_of cluster e.actor s.earlier) (deeds_of cluster e.actor told.before)
        (deeds_of-past cluster e.actor s.earlier told.before (IsPast-trans s.earlier base told.before (past_of (Step s.entry) s.earlier base old) base_before)))))
        (place_cases (Step s.entry) s.earlier first base s.at)
      where
        short : {i j : ℕ} → suc i ≤ j → j ≤ i → ⊥
        short f h = omega (arith, f, h)

        quiet : (t : Entry) (earlier : List Item) (k : Deed) → act_of cluster earlier t.event ≡ Some k.act → IsIn (Step t) first → is_restart k.act ≡ false
        quiet t earlier k act_is there = restarts_alone cluster earlier t.event k.act act_is (by (IsIn-append_cases (Step t) ds (Step e ∷ []) there))
          where
            step_same : {u v : Entry} → Step u ≡ Step v → u ≡ v
            step_same is = cc

            taking_quiet : (event : Event) → is_taking event ≡ true → is_restart_event event ≡ false
            taking_quiet (TakesMessage m) h = refl
            taking_quiet event h = absurd (true≢false (sym h))

            by : IsIn (Step t) ds ⊎ IsIn (Step t) (Step e ∷ []) → is_restart_event t.event ≡ false
            by (inl in_ds) = taking_quiet t.event (and_parts (is_taking t.event) (not t.lost) (all_in is_delivery ds (Step t) only in_ds)).0
            by (inr last) = ap is_restart_event (ap (λ (u : Entry). u.event) (step_same (only_one (Step t) (Step e) last)) ∙ recover.event_is)

    never : ⊥
    unfolding refusal
    never =
        true≢false
        (sym (stamp_lt-from_h now_promised.0 c.0
        (up (nack_top store (home_of x b) x b now_promised)
        (subst (λ (k : Ballot). top_of refusal < k.0.h) second_drawn
        (draw_above (node_of e.actor) start_of (deeds_of cluster e.actor middle) refusal (seen_there heard (deeds_of cluster e.actor told.before) (deeds_of cluster e.actor middle) refusal heard_at refl stays_up)))))
        ∙ asym ballot_order c now_promised above_second)
      where
        up : {i j k : ℕ} → i ≤ j → j < k → i < k
        up f h = omega (arith, f, h)

  pub not_ended : is_ended x c whole ≡ false
  not_ended =
      false_from_ne_true (is_ended x c whole)
      (λ ended.
      let r = was_refused cluster whole standing.stands x c ended in
      never r.store r.is_store r.past (past_of r.step r.past (taken_of cluster r.store whole) r.at) (promise_of r.past x) refl r.above)

abbrev EachOwn : TxnId → Ballot → List Item → Type 0
EachOwn x d items = (m : Message) → Sending items m → (is_read_or_later m ≡ true) ⊎ ((id_of m ≡ x) × (ballot_of m ≡ d))

pub seconds_are_not_ended : (cluster : Cluster) → RoundsSendTheirOwn cluster → SecondsAreNotEnded cluster
seconds_are_not_ended cluster sends a x b c base first second standing one two =
    subst
    (λ f. IsStanding cluster (second ++ (f ++ base)) → TakesOwn base f → TakesAll base f → TakesOwn (f ++ base) second → EachOwn x b f → EachOwn x c second
    → is_ended x c (second ++ (f ++ base)) ≡ false) (sym one.items_are)
    (subst
    (λ s. IsStanding cluster (s ++ ((one.deliveries ++ Step one.entry ∷ []) ++ base)) → TakesOwn base (one.deliveries ++ Step one.entry ∷ []) → TakesAll base (one.deliveries ++ Step one.entry ∷ []) → TakesOwn ((one.deliveries ++ Step one.entry ∷ []) ++ base) s → EachOwn x b (one.deliveries ++ Step one.entry ∷ []) → EachOwn x c s
    → is_ended x c (s ++ ((one.deliveries ++ Step one.entry ∷ []) ++ base)) ≡ false) (sym two.items_are)
    (λ stands own all own2 one_sent two_sent.
    not_ended cluster base one.deliveries two.deliveries one.entry two.entry x b c stands (recover_at b one.entry one.recover) (recover_at c two.entry two.recover)
    (two.recover.actor_is ∙ sym one.recover.actor_is) one.only own all own2 one_sent two_sent))
    standing one.own one.all two.own (λ m s. sends a x b base first m stands_first one s) (λ m s. sends a x c (first ++ base) second m standing two s)
  where
    stands_first : IsStanding cluster (first ++ base)
    stands_first = record { valid = standing.valid; stands = EachStands-past cluster (first ++ base) (second ++ (first ++ base)) (append_is_past second (first ++ base)) standing.stands }

    recover_at : (d : Ballot) (e : Entry) → IsRecover a x d e → IsRecover e.actor x d e
    recover_at d e r = record { txn = r.txn; event_is = r.event_is; actor_is = refl; noted = r.noted }
