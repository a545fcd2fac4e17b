-- What a restart makes of the past of its actor.
use Rattle.std.proofs.Common.{◌≡◌, ℕ, Bool, true, false, ◌&&◌, List, [], ◌∷◌, ◌++◌, Option, None, Some, refl, sym, ◌∙◌, ap, subst}
use Rattle.std.proofs.lemmas.List.{append-nil}
use Rattle.std.proofs.lemmas.Bool.{true≢false}
use Rattle.std.specs.Option.{option_map}
use Rattle.acc_stamp.specs.declared.actors.Actor.{Actor}
use Rattle.acc_stamp.specs.Actor.{actor_of, node_of}
use Rattle.acc_message.specs.declared.message.Message.{Message}
use Rattle.acc_message.specs.declared.entry.Emitted.{Emitted}
use Rattle.acc_message.specs.declared.entry.Event.{Event}
use Rattle.acc_message.specs.declared.entry.Event.TheVariants.{Begin, Recover, Slow, Message as TakesMessage, Restart}
use Rattle.acc_message.specs.declared.item.Item.{Item}
use Rattle.acc_message.specs.Coordinator.{silence}
use Rattle.acc_message.specs.Items.{message_at}
use Rattle.acc_message.specs.NodeRules.{Act, Takes, Restarts, node_emits, node_replay}
use Rattle.acc_message.specs.Run.{Cluster, act_of, clock_start, deeds_of, taken_of, emits, is_node, is_down}
use Rattle.acc_actor_laws.specs.TakenAlone.{messages_taken}
use Rattle.acc_actor_laws.proofs.Standing.{not_none}
use Rattle.acc_actor_laws.proofs.OpeningFacts.{some_is}
use Rattle.acc_safety.specs.RunLaws.{acts_done}
use Rattle.acc_safety.specs.Valid.{IsStanding}
use Rattle.acc_safety.proofs.DrawFacts.{is_node-node}
use Rattle.acc_run_laws.specs.Asks.{emits_if}
use Rattle.acc_payloads.specs.Items.{payload_by, payloads_in, downs_in}
use Rattle.acc_payloads.specs.declared.stops.Unsent.{Unsent}
use Rattle.acc_payloads.specs.Stops as actors
use Rattle.acc_payloads.specs.Stops.{Stop, Past, with_step, with_act, kept_with, some, IsUnsent}
use Rattle.acc_durable_store.specs.Actor as store
use Rattle.acc_pasts.specs.Entries.{payload_for, MayTake}
use Rattle.acc_pasts.specs.Pasts.{DidMore}
use Rattle.acc_pasts.specs.Stopped.{CanGoOn, CanAllGoOn, IsSound}
use Rattle.acc_pasts.proofs.Pasts.{did_more, acts_more, messages_more, taken_restarted}
use Rattle.acc_pasts.proofs.Replayed.{node_emits_next, store_emits_next}
use Rattle.acc_pasts.proofs.Sound.{did_reopen_kept, reopened_own, others_go_on}
use Rattle.acc_pasts.proofs.Standing.{entry_stands}
use Rattle.acc_schedule_runs.specs.Situations.{Situation, whole, stopped_at}
use Rattle.acc_schedule_runs.specs.Moves.{event_in, entered, entered_all, is_journalled, kept_if, with_kept, reopened}
use Rattle.acc_actors.specs.Pasts.{first_of, stops_in, stops_at, store_stops, node_past, store_past}
use Rattle.acc_actors.specs.Asked.{AreSteps, AreKeptSteps}
use Rattle.acc_actors.proofs.Pasts.{past_of, same_past, stop_of, stops_known, one_payload}

-- ---- steps that may be entered one after another

-- each of them may be taken after those before it, and is journalled
abbrev pub AllMay : Cluster → Situation → Actor → List Event → Bool → Type 0
AllMay cluster s a [] lost = Unit {0}
AllMay cluster s a (event ∷ events) lost =
    ((act : Act) × MayTake cluster (whole s) a (event_in s event) act × (is_journalled a (event_in s event) ≡ true)) × AllMay cluster (entered cluster s a event lost) a events lost

pub all_may : (cluster : Cluster) (a : Actor) (events : List Event) (s : Situation) → CanAllGoOn cluster s a events → AllMay cluster s a events true
all_may cluster a [] s can = tt
all_may cluster a (event ∷ events) s can =
    let first : CanGoOn cluster (whole s) a (event_in s event) = can.0.0 in (
      (first.act, first.may, first.journalled),
      all_may cluster a events (entered cluster s a event true) (others_go_on cluster s a event events can),
    )

pub no_store : (a : Actor) (node : ℕ) → a ≡ actor_of node 0 → is_node a ≡ false → ⊥
no_store a node is store = true≢false (sym (ap is_node is ∙ is_node-node node) ∙ store)

-- a store takes a message
pub takes_message : (cluster : Cluster) (items : List Item) (a : Actor) (event : Event) (act : Act) → is_node a ≡ false → is_journalled a event ≡ true
    → MayTake cluster items a event act → (m : Message) × (act ≡ Takes m)
takes_message cluster items a (Begin txn) act store journalled may = absurd (no_store a may.place.0.0 may.place.0.2 store)
takes_message cluster items a (Recover txn) act store journalled may = absurd (no_store a may.place.0.0 may.place.0.2 store)
takes_message cluster items a (Slow txn) act store journalled may = absurd (true≢false (sym journalled))
takes_message cluster items a (TakesMessage number) act store journalled may = by (message_at items number) may.act_is
  where
    by : (o : Option Message) → option_map Takes o ≡ Some act → (m : Message) × (act ≡ Takes m)
    by None is = absurd (not_none act is)
    by (Some m) is = (m, sym (some_is (Takes m) act is))
takes_message cluster items a (Restart kept) act store journalled may = absurd (true≢false (sym journalled))

module _ (cluster : Cluster) (a : Actor) where
  -- ---- what an actor took and holds

  abbrev pub acts_in : Situation → List Act
  acts_in s = acts_done (deeds_of cluster a (whole s))

  abbrev pub messages_in : Situation → List Message
  messages_in s = messages_taken (taken_of cluster a (whole s))

  abbrev pub held_in : Situation → List (List ℕ)
  held_in s = payloads_in a (whole s)

  -- with one entry more
  module _ (s : Situation) (event : Event) (act : Act) (lost : Bool) (may : MayTake cluster (whole s) a (event_in s event) act) where
    did_one : DidMore cluster (whole s) (whole (entered cluster s a event lost)) a (record { act = act; emitted = emits cluster (whole s) a act }) (payload_by (whole s) a (event_in s event) (emits cluster (whole s) a act).notes) lost
    did_one = did_more cluster (whole s) a (event_in s event) act lost may

    held_one : is_journalled a (event_in s event) ≡ true → held_in (entered cluster s a event lost) ≡ held_in s ++ first_of (payload_for cluster (whole s) a (event_in s event)) ∷ []
    held_one journalled = did_one.payloads ∙ ap (λ ps. held_in s ++ ps) (one_payload cluster (whole s) a (event_in s event) act journalled may)

    acts_one : acts_in (entered cluster s a event lost) ≡ act ∷ acts_in s
    acts_one = acts_more cluster (whole s) (whole (entered cluster s a event lost)) a act (emits cluster (whole s) a act) (payload_by (whole s) a (event_in s event) (emits cluster (whole s) a act).notes) lost did_one

  messages_one : (s : Situation) (event : Event) (m : Message) (lost : Bool) → MayTake cluster (whole s) a (event_in s event) (Takes m) → messages_in (entered cluster s a event lost) ≡ m ∷ messages_in s
  messages_one s event m lost may =
      messages_more cluster (whole s) (whole (entered cluster s a event lost)) a m (emits cluster (whole s) a (Takes m)) (payload_by (whole s) a (event_in s event) (emits cluster (whole s) a (Takes m)).notes) lost
      (did_one s event (Takes m) lost may)

  pub standing_on : (s : Situation) (event : Event) (act : Act) (lost : Bool) → MayTake cluster (whole s) a (event_in s event) act → IsStanding cluster (whole s) → IsStanding cluster (whole (entered cluster s a event lost))
  standing_on s event act lost may standing = record { valid = standing.valid; stands = (entry_stands cluster (whole s) a (event_in s event) act may lost, standing.stands) }

  -- ---- of a node

  node_step : (s : Situation) (event : Event) (act : Act) (lost : Bool) (stopped : List (Stop Act)) → MayTake cluster (whole s) a (event_in s event) act → is_journalled a (event_in s event) ≡ true
      → with_step (past_of (acts_in s) (held_in s) stopped) (stop_of cluster s a event act) ≡ past_of (acts_in (entered cluster s a event lost)) (held_in (entered cluster s a event lost)) []
  node_step s event act lost stopped may journalled = same_past _ _ _ _ _ _ (sym (acts_one s event act lost may)) (sym (held_one s event act lost may journalled)) refl

  -- with all of them
  pub node_all : (events : List Event) (s : Situation) (stopped : List (Stop Act)) (lost : Bool) → AllMay cluster s a events lost
      → kept_with (stops_in cluster s a events lost) (past_of (acts_in s) (held_in s) stopped)
      ≡ past_of (acts_in (entered_all cluster s a events lost)) (held_in (entered_all cluster s a events lost)) []
  node_all [] s stopped lost may = refl
  node_all (event ∷ events) s stopped lost may =
      ap (λ (stops : List (Stop Act)). kept_with stops (past_of (acts_in s) (held_in s) stopped)) (stops_known cluster s a event may.0.0 events lost may.0.1.act_is)
      ∙ ap (kept_with (stops_in cluster (entered cluster s a event lost) a events lost)) (node_step s event may.0.0 lost stopped may.0.1 may.0.2)
      ∙ node_all events (entered cluster s a event lost) [] lost may.1

  -- what didn't go out is what the rules say
  abbrev pub node_rules : Past Act → Act → Emitted
  node_rules past act =
      let start : ℕ = clock_start cluster.starts (node_of a) in
      node_emits cluster.layout (node_of a) start (node_replay cluster.layout (node_of a) start past.acts) act

  pub node_told : (events : List Event) (s : Situation) (stopped : List (Stop Act)) (lost : Bool) (kept : List Unsent) → is_node a ≡ true → IsStanding cluster (whole s) → AllMay cluster s a events lost
      → IsUnsent node_rules (past_of (acts_in s) (held_in s) stopped) (stops_in cluster s a events lost) kept
      → AreSteps cluster s a events lost kept
  node_told [] s stopped lost [] kind standing may h = tt
  node_told [] s stopped lost (unsent ∷ others) kind standing may h = h
  node_told (event ∷ events) s stopped lost kept kind standing may h =
      by (λ others told. node_told events (entered cluster s a event lost) [] lost others kind (standing_on s event act lost may.0.1 standing) may.1 told) kept
      (subst (λ (stops : List (Stop Act)). IsUnsent node_rules (past_of (acts_in s) (held_in s) stopped) stops kept) (stops_known cluster s a event act events lost may.0.1.act_is) h)
    where
      act : Act
      act = may.0.0

      by : ((others : List Unsent) → IsUnsent node_rules (past_of (acts_in (entered cluster s a event lost)) (held_in (entered cluster s a event lost)) []) (stops_in cluster (entered cluster s a event lost) a events lost) others
          → AreSteps cluster (entered cluster s a event lost) a events lost others)
          → (kept : List Unsent) → IsUnsent node_rules (past_of (acts_in s) (held_in s) stopped) (stop_of cluster s a event act ∷ stops_in cluster (entered cluster s a event lost) a events lost) kept
          → AreSteps cluster s a (event ∷ events) lost kept
      by rest [] h = h
      by rest (unsent ∷ others) h = (
        h.0,
        h.1 ∙ sym (node_emits_next cluster (whole s) a act standing kind) ∙ ap (emits_if cluster (whole s) a) (sym may.0.1.act_is),
        rest others
            (subst (λ (past : Past Act). IsUnsent node_rules past (stops_in cluster (entered cluster s a event lost) a events lost) others) (node_step s event act lost stopped may.0.1 may.0.2) h.2),
      )

  -- ---- of a store

  store_step : (s : Situation) (event : Event) (m : Message) (lost : Bool) (stopped : List (Stop Message)) → MayTake cluster (whole s) a (event_in s event) (Takes m) → is_journalled a (event_in s event) ≡ true
      → with_step (past_of (messages_in s) (held_in s) stopped) (stop_of cluster s a event m) ≡ past_of (messages_in (entered cluster s a event lost)) (held_in (entered cluster s a event lost)) []
  store_step s event m lost stopped may journalled = same_past _ _ _ _ _ _ (sym (messages_one s event m lost may)) (sym (held_one s event (Takes m) lost may journalled)) refl

  -- its stop, before the others
  pub store_known : (s : Situation) (event : Event) (m : Message) (events : List Event) (lost : Bool) → act_of cluster (whole s) (event_in s event) ≡ Some (Takes m)
      → store_stops (stops_in cluster s a (event ∷ events) lost) ≡ stop_of cluster s a event m ∷ store_stops (stops_in cluster (entered cluster s a event lost) a events lost)
  store_known s event m events lost is = ap store_stops (stops_known cluster s a event (Takes m) events lost is)

  -- the message of a step
  pub message_of : (s : Situation) (event : Event) (act : Act) → is_node a ≡ false → MayTake cluster (whole s) a (event_in s event) act → is_journalled a (event_in s event) ≡ true
      → (m : Message) × MayTake cluster (whole s) a (event_in s event) (Takes m)
  message_of s event act kind may journalled =
      let takes : (m : Message) × (act ≡ Takes m) = takes_message cluster (whole s) a (event_in s event) act kind journalled may in
      (takes.0, subst (λ (x : Act). MayTake cluster (whole s) a (event_in s event) x) takes.1 may)

  pub store_all : (events : List Event) (s : Situation) (stopped : List (Stop Message)) (lost : Bool) → is_node a ≡ false → AllMay cluster s a events lost
      → kept_with (store_stops (stops_in cluster s a events lost)) (past_of (messages_in s) (held_in s) stopped)
      ≡ past_of (messages_in (entered_all cluster s a events lost)) (held_in (entered_all cluster s a events lost)) []
  store_all [] s stopped lost kind may = refl
  store_all (event ∷ events) s stopped lost kind may =
      let takes : (m : Message) × MayTake cluster (whole s) a (event_in s event) (Takes m) = message_of s event may.0.0 kind may.0.1 may.0.2 in
      ap (λ (stops : List (Stop Message)). kept_with stops (past_of (messages_in s) (held_in s) stopped)) (store_known s event takes.0 events lost takes.1.act_is)
      ∙ ap (kept_with (store_stops (stops_in cluster (entered cluster s a event lost) a events lost))) (store_step s event takes.0 lost stopped takes.1 may.0.2)
      ∙ store_all events (entered cluster s a event lost) [] lost kind may.1

  abbrev pub store_rules : Past Message → Message → Emitted
  store_rules = store.emits_next cluster.layout a

  pub store_told : (events : List Event) (s : Situation) (stopped : List (Stop Message)) (lost : Bool) (kept : List Unsent) → is_node a ≡ false → IsStanding cluster (whole s) → AllMay cluster s a events lost
      → IsUnsent store_rules (past_of (messages_in s) (held_in s) stopped) (store_stops (stops_in cluster s a events lost)) kept
      → AreSteps cluster s a events lost kept
  store_told [] s stopped lost [] kind standing may h = tt
  store_told [] s stopped lost (unsent ∷ others) kind standing may h = h
  store_told (event ∷ events) s stopped lost kept kind standing may h =
      by (λ others told. store_told events (entered cluster s a event lost) [] lost others kind (standing_on s event (Takes takes.0) lost takes.1 standing) may.1 told) kept
      (subst (λ (stops : List (Stop Message)). IsUnsent store_rules (past_of (messages_in s) (held_in s) stopped) stops kept) (store_known s event takes.0 events lost takes.1.act_is) h)
    where
      takes : (m : Message) × MayTake cluster (whole s) a (event_in s event) (Takes m)
      takes = message_of s event may.0.0 kind may.0.1 may.0.2

      by : ((others : List Unsent)
          → IsUnsent store_rules (past_of (messages_in (entered cluster s a event lost)) (held_in (entered cluster s a event lost)) []) (store_stops (stops_in cluster (entered cluster s a event lost) a events lost)) others
          → AreSteps cluster (entered cluster s a event lost) a events lost others)
          → (kept : List Unsent)
          → IsUnsent store_rules (past_of (messages_in s) (held_in s) stopped) (stop_of cluster s a event takes.0 ∷ store_stops (stops_in cluster (entered cluster s a event lost) a events lost)) kept
          → AreSteps cluster s a (event ∷ events) lost kept
      by rest [] h = h
      by rest (unsent ∷ others) h = (
        h.0,
        h.1 ∙ sym (store_emits_next cluster (whole s) a takes.0 standing kind) ∙ ap (emits_if cluster (whole s) a) (sym takes.1.act_is),
        rest others
            (subst (λ (past : Past Message). IsUnsent store_rules past (store_stops (stops_in cluster (entered cluster s a event lost) a events lost)) others)
            (store_step s event takes.0 lost stopped takes.1 may.0.2) h.2),
      )

-- ---- which steps were kept

nothing : (s : Situation) (a : Actor) (keeps : Bool) → stopped_at a s.stopped ≡ [] → kept_if keeps a s ≡ []
nothing s a true none = none
nothing s a false none = refl

and_true : (b : Bool) → (b && true) ≡ b
and_true true = refl
and_true false = refl

-- what is kept by one answer is what is kept by another one, if both say the same of steps that were stopped
pub same_kept : (s : Situation) (a : Actor) (b keeps c : Bool) → b ≡ (keeps && c) → (some (stopped_at a s.stopped) ≡ true → c ≡ true) → kept_if b a s ≡ kept_if keeps a s
same_kept s a b keeps c is there = by (stopped_at a s.stopped) refl there
  where
    by : (events : List Event) → stopped_at a s.stopped ≡ events → (some events ≡ true → c ≡ true) → kept_if b a s ≡ kept_if keeps a s
    by [] none there = nothing s a b none ∙ sym (nothing s a keeps none)
    by (event ∷ events) found there = ap (λ x. kept_if x a s) (is ∙ ap (λ x. keeps && x) (there refl) ∙ and_true keeps)

-- what was kept can go on
pub kept_can : (cluster : Cluster) (s : Situation) (a : Actor) (keeps : Bool) → IsSound cluster s → CanAllGoOn cluster s a (kept_if keeps a s)
kept_can cluster s a true sound = sound.stopped a
kept_can cluster s a false sound = (tt, tt)

pub kept_steps : (cluster : Cluster) (s : Situation) (a : Actor) (kept : List Unsent) → AreKeptSteps cluster s a kept → AreSteps cluster s a (kept_if (some kept) a s) true kept
kept_steps cluster s a [] h = tt
kept_steps cluster s a (unsent ∷ others) h = h

-- ---- after the restart

module _ (cluster : Cluster) (s : Situation) (a : Actor) where
  none_after : (kept : List Event) → stops_at cluster (reopened cluster s a kept) a ≡ []
  none_after kept = ap (λ events. stops_in cluster (reopened cluster s a kept) a events true) (reopened_own cluster s a kept)

  pub down_reopened : (kept : List Event) → is_down a (whole (reopened cluster s a kept)) ≡ false
  down_reopened kept = (did_reopen_kept cluster s a kept).down

  pub downs_reopened : (kept : List Event) → downs_in a (reopened cluster s a kept).own ≡ downs_in a s.own
  downs_reopened kept = by kept s
    where
      by : (kept : List Event) (s : Situation) → downs_in a (with_kept cluster s a kept).own ≡ downs_in a s.own
      by [] s = refl
      by (event ∷ kept) s = by kept (entered cluster s a event true)

  pub node_kept : (kept : List Event) → CanAllGoOn cluster s a kept
      → node_past cluster (reopened cluster s a kept) a ≡ with_act Restarts (kept_with (stops_in cluster s a kept true) (node_past cluster s a))
  node_kept kept can =
      same_past _ _ _ _ _ _ (acts_more cluster (whole (with_kept cluster s a kept)) (whole (reopened cluster s a kept)) a Restarts silence [] false (did_reopen_kept cluster s a kept))
      ((did_reopen_kept cluster s a kept).payloads ∙ append-nil (payloads_in a (whole (with_kept cluster s a kept)))) (none_after kept)
      ∙ ap (with_act Restarts) (sym (node_all cluster a kept s (stops_at cluster s a) true (all_may cluster a kept s can)))

  pub store_kept : (kept : List Event) → is_node a ≡ false → CanAllGoOn cluster s a kept
      → store_past cluster (reopened cluster s a kept) a ≡ kept_with (store_stops (stops_in cluster s a kept true)) (store_past cluster s a)
  store_kept kept kind can =
      same_past _ _ _ _ _ _ (ap messages_taken (taken_restarted cluster (whole (with_kept cluster s a kept)) (whole (reopened cluster s a kept)) a silence [] false (did_reopen_kept cluster s a kept)))
      ((did_reopen_kept cluster s a kept).payloads ∙ append-nil (payloads_in a (whole (with_kept cluster s a kept)))) (ap store_stops (none_after kept))
      ∙ sym (store_all cluster a kept s (store_stops (stops_at cluster s a)) true kind (all_may cluster a kept s can))

  -- as its journal has it
  pub node_restarts : (keeps : Bool) → IsSound cluster s → node_past cluster (reopened cluster s a (kept_if keeps a s)) a ≡ with_act Restarts (actors.kept_if keeps (node_past cluster s a))
  node_restarts true sound = node_kept (stopped_at a s.stopped) (sound.stopped a)
  node_restarts false sound = node_kept [] (tt, tt)

  pub store_restarts : (keeps : Bool) → is_node a ≡ false → IsSound cluster s → store_past cluster (reopened cluster s a (kept_if keeps a s)) a ≡ actors.kept_if keeps (store_past cluster s a)
  store_restarts true kind sound = store_kept (stopped_at a s.stopped) kind (sound.stopped a)
  store_restarts false kind sound = store_kept [] kind (tt, tt)

  -- ---- whether steps were stopped

  pub node_some : IsSound cluster s → some (stopped_at a s.stopped) ≡ true → some (stops_at cluster s a) ≡ true
  node_some sound = by (stopped_at a s.stopped) (all_may cluster a (stopped_at a s.stopped) s (sound.stopped a))
    where
      by : (events : List Event) → AllMay cluster s a events true → some events ≡ true → some (stops_in cluster s a events true) ≡ true
      by [] may is = is
      by (event ∷ events) may is = ap (λ (stops : List (Stop Act)). some stops) (stops_known cluster s a event may.0.0 events true may.0.1.act_is)

  pub store_some : is_node a ≡ false → IsSound cluster s → some (stopped_at a s.stopped) ≡ true → some (store_stops (stops_at cluster s a)) ≡ true
  store_some kind sound = by (stopped_at a s.stopped) (all_may cluster a (stopped_at a s.stopped) s (sound.stopped a))
    where
      by : (events : List Event) → AllMay cluster s a events true → some events ≡ true → some (store_stops (stops_in cluster s a events true)) ≡ true
      by [] may is = is
      by (event ∷ events) may is =
          let takes : (m : Message) × MayTake cluster (whole s) a (event_in s event) (Takes m) = message_of cluster a s event may.0.0 kind may.0.1 may.0.2 in
          ap (λ (stops : List (Stop Message)). some stops) (store_known cluster a s event takes.0 events true takes.1.act_is)
