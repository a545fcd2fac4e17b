-- What one more item of an actor makes of its past.
use Rattle.std.proofs.Common.{◌≡◌, ℕ, Bool, true, false, not, List, [], ◌∷◌, ◌++◌, length, Option, None, Some, refl, sym, ◌∙◌, ap, subst}
use Rattle.std.proofs.lemmas.List.{append-nil}
use Rattle.std.proofs.lemmas.Bool.{true≢false}
use Rattle.std.specs.List.{AllByRecursion, slice_get}
use Rattle.std.specs.Option.{option_map}
use Rattle.acc_stamp.specs.declared.actors.Actor.{Actor}
use Rattle.acc_stamp.specs.declared.stamps.TxnId.{TxnId}
use Rattle.acc_stamp.specs.Actor.{actor_of}
use Rattle.acc_stamp.proofs.Rising.{each_weaker}
use Rattle.acc_txn.specs.declared.parts.BodyParts.{BodyParts}
use Rattle.acc_message.specs.declared.message.Message.{Message}
use Rattle.acc_message.specs.declared.entry.Emitted.{Emitted}
use Rattle.acc_message.specs.declared.entry.Entry.{Entry}
use Rattle.acc_message.specs.declared.entry.Event.{Event}
use Rattle.acc_message.specs.declared.entry.Event.TheVariants.{Begin, Recover, Slow, Message as TakesMessage, Restart}
use Rattle.acc_message.specs.declared.item.Item.{Item}
use Rattle.acc_message.specs.declared.item.Item.TheVariants.{Down}
use Rattle.acc_message.specs.Items.{sent_of, message_at, id_of_txn}
use Rattle.acc_message.specs.NodeRules.{Act, Begins, Recovers, Takes, Deed}
use Rattle.acc_message.specs.Run.{Cluster, act_of, recovers, deeds_of, emits, is_node, is_down}
use Rattle.acc_actor_laws.proofs.Standing.{not_none}
use Rattle.acc_actor_laws.proofs.OpeningFacts.{some_is}
use Rattle.acc_safety.proofs.Bridge.{same_itself}
use Rattle.acc_safety.proofs.DrawFacts.{is_node-node}
use Rattle.acc_run_laws.specs.Asks.{emits_if}
use Rattle.acc_payloads.specs.Items.{payload_by, payloads_in}
use Rattle.acc_payloads.specs.Stops.{Stop, Past, with_stops}
use Rattle.acc_pasts.specs.Entries.{emitted_for, payload_for, entering, MayTake}
use Rattle.acc_pasts.specs.Pasts.{DidMore}
use Rattle.acc_pasts.specs.Stopped.{CanGoOn, CanAllGoOn, IsSound, IsSameStep}
use Rattle.acc_pasts.proofs.Deeds.{deeds_more}
use Rattle.acc_pasts.proofs.Pasts.{did_more, acts_more, messages_more}
use Rattle.acc_pasts.proofs.Payloads.{begin_payload, recover_payload, store_payload}
use Rattle.acc_pasts.proofs.Stops.{act_still, same_by_deeds}
use Rattle.acc_schedule_runs.specs.Situations.{Stopped, Situation, raised, joined, whole, stopped_at, without, stops_of}
use Rattle.acc_schedule_runs.specs.Moves.{with_item, event_in, entry_of, entered, is_journalled, stopped_by}
use Rattle.acc_schedule_runs.proofs.StopLists.{stopped_own}
use Rattle.acc_actors.specs.Pasts.{first_of, stop_by, stops_in, stops_at, store_stops, node_past, store_past}

-- ---- pasts

abbrev pub past_of : {T : Type 0} → List T → List (List ℕ) → List (Stop T) → Past T
past_of acts held stopped = record { acts = acts; held = held; stopped = stopped }

pub same_past : {T : Type 0} (acts acts' : List T) (held held' : List (List ℕ)) (stopped stopped' : List (Stop T)) → acts ≡ acts' → held ≡ held' → stopped ≡ stopped'
    → past_of acts held stopped ≡ past_of acts' held' stopped'
same_past acts acts' held held' stopped stopped' a h s =
    ap (λ x. past_of x held stopped) a ∙ ap (λ x. past_of acts' x stopped) h ∙ ap (λ x. past_of acts' held' x) s

-- ---- what was stopped

-- an actor that is up has no stopped step
pub none_stopped : (cluster : Cluster) (s : Situation) (a : Actor) → IsSound cluster s → is_down a (whole s) ≡ false → stopped_at a s.stopped ≡ []
none_stopped cluster s a sound up = by (stopped_at a s.stopped) (sound.stopped a)
  where
    by : (events : List Event) → CanAllGoOn cluster s a events → events ≡ []
    by [] can = refl
    by (event ∷ events) can = absurd (true≢false (sym can.0.0.down ∙ up))

-- the step as a fault would stop it
abbrev pub stop_of : {T : Type 0} → Cluster → Situation → Actor → Event → T → Stop T
stop_of cluster s a event act = record { event = event; act = act; payload = first_of (payload_for cluster (whole s) a (event_in s event)) }

-- what it takes, before some others
pub stops_known : (cluster : Cluster) (s : Situation) (a : Actor) (event : Event) (act : Act) (events : List Event) (lost : Bool) → act_of cluster (whole s) (event_in s event) ≡ Some act
    → stops_in cluster s a (event ∷ events) lost ≡ stop_of cluster s a event act ∷ stops_in cluster (entered cluster s a event lost) a events lost
stops_known cluster s a event act events lost is =
    ap (λ o. stop_by event o (payload_for cluster (whole s) a (event_in s event)) ++ stops_in cluster (entered cluster s a event lost) a events lost) is

-- it depends on the items alone
pub stops_same : (cluster : Cluster) (a : Actor) (events : List Event) (s : Situation) (dropped : List ℕ) (stopped : List Stopped) (lost : Bool)
    → stops_in cluster (record { earlier = s.earlier; own = s.own; dropped = dropped; stopped = stopped }) a events lost ≡ stops_in cluster s a events lost
stops_same cluster a [] s dropped stopped lost = refl
stops_same cluster a (event ∷ events) s dropped stopped lost =
    ap (λ stops. stop_by event (act_of cluster (whole s) (event_in s event)) (payload_for cluster (whole s) a (event_in s event)) ++ stops)
    (stops_same cluster a events (entered cluster s a event lost) dropped stopped lost)

-- what each event takes after these items
abbrev pub AreKnown : Cluster → Situation → List Item → List Event → Type 0
AreKnown cluster s items events = AllByRecursion (λ (event : Event). (act : Act) × (act_of cluster (whole s) (event_in s event) ≡ Some act) × (act_of cluster items (event_in s event) ≡ Some act)) events

-- It depends on what its actor did, and on nothing that others entered.
pub stops_alike : (cluster : Cluster) (a : Actor) (events : List Event) (s : Situation) (own : List Item) (dropped : List ℕ) (stopped : List Stopped) (lost lost' : Bool)
    → deeds_of cluster a (joined s.earlier own) ≡ deeds_of cluster a (whole s) → AreKnown cluster s (joined s.earlier own) events
    → stops_in cluster (record { earlier = s.earlier; own = own; dropped = dropped; stopped = stopped }) a events lost' ≡ stops_in cluster s a events lost
stops_alike cluster a [] s own dropped stopped lost lost' deeds known = refl
stops_alike cluster a (event ∷ events) s own dropped stopped lost lost' deeds known =
    stops_known cluster now a event act events lost' known.0.2
    ∙ ap (λ p. record { event = event; act = act; payload = first_of p } ∷ stops_in cluster (entered cluster now a event lost') a events lost') same.payload
    ∙ ap (λ stops. stop_of cluster s a event act ∷ stops)
    (stops_alike cluster a events (entered cluster s a event lost) (entry_of cluster now a event lost' ∷ own) dropped stopped lost lost' deeds_too
    (each_weaker _ _ events (λ other h. (
      h.0,
      act_still cluster (whole s) (entering cluster (whole s) a (event_in s event) lost) (event_in s other) h.0 h.1,
      act_still cluster (whole now) (entering cluster (whole now) a (event_in s event) lost') (event_in s other) h.0 h.2,
    )) known.1))
    ∙ sym (stops_known cluster s a event act events lost known.0.1)
  where
    now : Situation
    now = record { earlier = s.earlier; own = own; dropped = dropped; stopped = stopped }

    act : Act
    act = known.0.0

    same : IsSameStep cluster (whole s) (whole now) a (event_in s event)
    same = same_by_deeds cluster (whole s) (whole now) a (event_in s event) act deeds known.0.1 known.0.2

    entry_on : List Item → Bool → Entry
    entry_on items lost = record { actor = a; event = event_in s event; emitted = emitted_for cluster items a (event_in s event); lost = lost }

    deeds_too : deeds_of cluster a (entering cluster (whole now) a (event_in s event) lost' ∷ whole now) ≡ deeds_of cluster a (entering cluster (whole s) a (event_in s event) lost ∷ whole s)
    deeds_too =
        deeds_more cluster (whole now) (entry_on (whole now) lost') a act (same_itself a) known.0.2
        ∙ ap (λ (m : Emitted). record { act = act; emitted = m } ∷ deeds_of cluster a (whole now)) same.emitted
        ∙ ap (λ (past : List Deed). record { act = act; emitted = emitted_for cluster (whole s) a (event_in s event) } ∷ past) deeds
        ∙ sym (deeds_more cluster (whole s) (entry_on (whole s) lost) a act (same_itself a) known.0.1)

-- with an item more
pub known_on : (cluster : Cluster) (s : Situation) (item : Item) (events : List Event) → AllByRecursion (λ (event : Event). (act : Act) × (act_of cluster (whole s) (event_in s event) ≡ Some act)) events
    → AreKnown cluster s (raised (length (sent_of s.earlier)) item ∷ whole s) events
known_on cluster s item events known =
    each_weaker _ _ events (λ event h. (h.0, h.1, act_still cluster (whole s) (raised (length (sent_of s.earlier)) item) (event_in s event) h.0 h.1)) known

pub acts_known : (cluster : Cluster) (s : Situation) (a : Actor) (events : List Event) → CanAllGoOn cluster s a events
    → AllByRecursion (λ (event : Event). (act : Act) × (act_of cluster (whole s) (event_in s event) ≡ Some act)) events
acts_known cluster s a events can = each_weaker _ _ events (λ event (h : CanGoOn cluster (whole s) a (event_in s event)). (h.act, h.may.act_is)) can.0

-- it goes down with its steps
pub stops_now : (cluster : Cluster) (s : Situation) (a : Actor) (events : List Event) (lost : Bool)
    → AllByRecursion (λ (event : Event). (act : Act) × (act_of cluster (whole s) (event_in s event) ≡ Some act)) events
    → stops_at cluster (stopped_by a events s) a ≡ stops_in cluster s a events lost
stops_now cluster s a events lost known =
    ap (λ es. stops_in cluster (stopped_by a events s) a es true) (stopped_own a events s.stopped)
    ∙ stops_alike cluster a events s (Down a ∷ s.own) s.dropped (stops_of a events ++ without a s.stopped) lost true refl (known_on cluster s (Down a) events known)

-- ---- the payload of a journalled step

pub payload_is : (cluster : Cluster) (items : List Item) (a : Actor) (event : Event) (act : Act) → act_of cluster items event ≡ Some act
    → payload_for cluster items a event ≡ payload_by items a event (emits cluster items a act).notes
payload_is cluster items a event act is = ap (λ (o : Option Act). payload_by items a event (emits_if cluster items a o).notes) is

one_first : (payloads : List (List ℕ)) (payload : List ℕ) → payloads ≡ payload ∷ [] → payloads ≡ first_of payloads ∷ []
one_first payloads payload is = is ∙ ap (λ p. p ∷ []) (sym (ap first_of is))

node_at : (a : Actor) (node : ℕ) → a ≡ actor_of node 0 → is_node a ≡ true
node_at a node is = ap is_node is ∙ is_node-node node

module _ (cluster : Cluster) (items : List Item) (a : Actor) where
  begins_one : (txn : ℕ) (o : Option BodyParts) (act : Act) → is_node a ≡ true → option_map (Begins txn) o ≡ Some act
      → payload_by items a (Begin txn) (emits cluster items a act).notes ≡ first_of (payload_by items a (Begin txn) (emits cluster items a act).notes) ∷ []
  begins_one txn None act node is = absurd (not_none act is)
  begins_one txn (Some body) act node is =
      subst (λ x. payload_by items a (Begin txn) (emits cluster items a x).notes ≡ first_of (payload_by items a (Begin txn) (emits cluster items a x).notes) ∷ [])
      (some_is (Begins txn body) act is)
      (one_first (payload_by items a (Begin txn) (emits cluster items a (Begins txn body)).notes) _ (begin_payload cluster items a txn txn body node))

  recovers_one : (txn : ℕ) (id : Option TxnId) (o : Option BodyParts) (act : Act) → is_node a ≡ true → recovers id o ≡ Some act
      → payload_by items a (Recover txn) (emits cluster items a act).notes ≡ first_of (payload_by items a (Recover txn) (emits cluster items a act).notes) ∷ []
  recovers_one txn None o act node is = absurd (not_none act is)
  recovers_one txn (Some x) None act node is = absurd (not_none act is)
  recovers_one txn (Some x) (Some body) act node is =
      subst (λ y. payload_by items a (Recover txn) (emits cluster items a y).notes ≡ first_of (payload_by items a (Recover txn) (emits cluster items a y).notes) ∷ [])
      (some_is (Recovers x body) act is)
      (one_first (payload_by items a (Recover txn) (emits cluster items a (Recovers x body)).notes) _ (recover_payload cluster items a txn x body node))

  takes_one : (number : ℕ) (act : Act) → is_node a ≡ false → option_map Takes (message_at items number) ≡ Some act
      → payload_by items a (TakesMessage number) (emits cluster items a act).notes ≡ first_of (payload_by items a (TakesMessage number) (emits cluster items a act).notes) ∷ []
  takes_one number act store is = by (message_at items number) refl is
    where
      by : (o : Option Message) → message_at items number ≡ o → option_map Takes o ≡ Some act
          → payload_by items a (TakesMessage number) (emits cluster items a act).notes ≡ first_of (payload_by items a (TakesMessage number) (emits cluster items a act).notes) ∷ []
      by None found e = absurd (not_none act e)
      by (Some m) found e = one_first (payload_by items a (TakesMessage number) (emits cluster items a act).notes) _ (store_payload items a number m (emits cluster items a act).notes store found)

  not_is : (b : Bool) → not b ≡ true → b ≡ false
  not_is true h = sym h
  not_is false h = refl

  -- it is one
  pub one_payload : (event : Event) (act : Act) → is_journalled a event ≡ true → MayTake cluster items a event act
      → payload_by items a event (emits cluster items a act).notes ≡ first_of (payload_for cluster items a event) ∷ []
  one_payload event act journalled may =
      by event journalled may ∙ ap (λ ps. first_of ps ∷ []) (sym (payload_is cluster items a event act may.act_is))
    where
      by : (event : Event) → is_journalled a event ≡ true → MayTake cluster items a event act
          → payload_by items a event (emits cluster items a act).notes ≡ first_of (payload_by items a event (emits cluster items a act).notes) ∷ []
      by (Begin txn) journalled may = begins_one txn (slice_get cluster.bodies txn) act (node_at a may.place.0.0 may.place.0.2) may.act_is
      by (Recover txn) journalled may = recovers_one txn (id_of_txn items txn) (slice_get cluster.bodies txn) act (node_at a may.place.0.0 may.place.0.2) may.act_is
      by (Slow txn) journalled may = absurd (true≢false (sym journalled))
      by (TakesMessage number) journalled may = takes_one number act (not_is (is_node a) journalled) may.act_is
      by (Restart kept) journalled may = absurd (true≢false (sym journalled))

-- ---- what an entry makes of the past

module _ (cluster : Cluster) (s : Situation) (a : Actor) (event : Event) (act : Act) (may : MayTake cluster (whole s) a (event_in s event) act) (sound : IsSound cluster s) where
  abbrev payload : List (List ℕ)
  payload = payload_by (whole s) a (event_in s event) (emits cluster (whole s) a act).notes

  did : (lost : Bool) → DidMore cluster (whole s) (whole (entered cluster s a event lost)) a (record { act = act; emitted = emits cluster (whole s) a act }) payload lost
  did lost = did_more cluster (whole s) a (event_in s event) act lost may

  none_now : is_down a (whole s) ≡ false → stops_at cluster (entered cluster s a event false) a ≡ []
  none_now up = ap (λ events. stops_in cluster (entered cluster s a event false) a events true) (none_stopped cluster s a sound up)

  pub node_entered : is_down a (whole s) ≡ false
      → node_past cluster (entered cluster s a event false) a ≡ past_of (act ∷ (node_past cluster s a).acts) ((node_past cluster s a).held ++ payload) []
  node_entered up =
      same_past _ _ _ _ _ _ (acts_more cluster (whole s) (whole (entered cluster s a event false)) a act (emits cluster (whole s) a act) payload false (did false))
      (did false).payloads (none_now up)

  -- the step that a fault stopped
  stop_now : stops_at cluster (stopped_by a (event ∷ []) s) a ≡ stop_of cluster s a event act ∷ []
  stop_now = stops_now cluster s a (event ∷ []) true ((act, may.act_is), tt) ∙ stops_known cluster s a event act [] true may.act_is

  pub node_stopped : node_past cluster (stopped_by a (event ∷ []) s) a ≡ with_stops (node_past cluster s a) (stop_of cluster s a event act ∷ [])
  node_stopped = same_past _ _ _ _ _ _ refl (append-nil (payloads_in a (whole s))) stop_now

-- of a store
module _ (cluster : Cluster) (s : Situation) (a : Actor) (event : Event) (m : Message) (may : MayTake cluster (whole s) a (event_in s event) (Takes m)) (sound : IsSound cluster s) where
  pub store_entered : is_down a (whole s) ≡ false
      → store_past cluster (entered cluster s a event false) a
      ≡ past_of (m ∷ (store_past cluster s a).acts) ((store_past cluster s a).held ++ payload_by (whole s) a (event_in s event) (emits cluster (whole s) a (Takes m)).notes) []
  store_entered up =
      same_past _ _ _ _ _ _
      (messages_more cluster (whole s) (whole (entered cluster s a event false)) a m (emits cluster (whole s) a (Takes m)) _ false (did_more cluster (whole s) a (event_in s event) (Takes m) false may))
      (did_more cluster (whole s) a (event_in s event) (Takes m) false may).payloads
      (ap (λ events. store_stops (stops_in cluster (entered cluster s a event false) a events true)) (none_stopped cluster s a sound up))

  pub store_stopped : store_past cluster (stopped_by a (event ∷ []) s) a ≡ with_stops (store_past cluster s a) (stop_of cluster s a event m ∷ [])
  store_stopped =
      same_past _ _ _ _ _ _ refl (append-nil (payloads_in a (whole s))) (ap store_stops (ap (λ (p : Past Act). p.stopped) (node_stopped cluster s a event (Takes m) may sound)))

-- ---- an actor that stays down

-- a restart that fails
pub still_stopped : (cluster : Cluster) (s : Situation) (a : Actor) → IsSound cluster s → stops_at cluster (with_item (Down a) s) a ≡ stops_at cluster s a
still_stopped cluster s a sound =
    stops_alike cluster a (stopped_at a s.stopped) s (Down a ∷ s.own) s.dropped s.stopped true true refl
    (known_on cluster s (Down a) (stopped_at a s.stopped) (acts_known cluster s a (stopped_at a s.stopped) (sound.stopped a)))

pub node_down : (cluster : Cluster) (s : Situation) (a : Actor) → IsSound cluster s → node_past cluster (with_item (Down a) s) a ≡ node_past cluster s a
node_down cluster s a sound = same_past _ _ _ _ _ _ refl (append-nil (payloads_in a (whole s))) (still_stopped cluster s a sound)

pub store_down : (cluster : Cluster) (s : Situation) (a : Actor) → IsSound cluster s → store_past cluster (with_item (Down a) s) a ≡ store_past cluster s a
store_down cluster s a sound = same_past _ _ _ _ _ _ refl (append-nil (payloads_in a (whole s))) (ap store_stops (still_stopped cluster s a sound))
