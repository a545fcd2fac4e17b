-- From what the calls of actors that take a message ensure to what their slots have tried.
use Rattle.std.proofs.Common.{◌≡◌, ◌⊎◌, ℕ, ◌+◌, ◌<◌, ◌≤◌, ◌^◌, true, false, not, List, [], Option, None, Some, Result, Ok, Err, IfOk, is_none, length, sym, ◌∙◌, ap, subst, arith, inl, inr, ⊎_elim}
use Rattle.std.specs.Prelude.{OnErr, IsErr}
use Rattle.std.specs.Option.{option_map}
use Rattle.std.specs.List.{AllByRecursion}
use Rattle.std.proofs.lemmas.Bool.{true≢false}
use mathlib.Core.Logic.{dite}
use native.Mathlib.Decide.{dec_lt}
use Rattle.acc_base.specs.declared.memory.OutOfMemory.{OutOfMemory}
use Rattle.acc_stamp.specs.declared.actors.Actor.{Actor}
use Rattle.acc_stamp.specs.Actor.{node_of}
use Rattle.acc_topology.specs.Layout.{Layout}
use Rattle.acc_ports.specs.declared.disk.Disk.{Ghosts}
use Rattle.acc_ports.specs.Faults.{Rose, CountsFaults}
use Rattle.acc_lang.specs.Texts.{has_text_value}
use Rattle.acc_message.specs.declared.message.Message.{Message}
use Rattle.acc_message.specs.declared.entry.Emitted.{Emitted}
use Rattle.acc_message.specs.declared.entry.Event.TheVariants.{Message as MessageEvent}
use Rattle.acc_message.specs.Fields.{top_of}
use Rattle.acc_message.specs.Items.{sent_of, message_at}
use Rattle.acc_message.specs.NodeRules.{Act, Begins, Recovers, Slows, Takes, Restarts}
use Rattle.acc_message.specs.declared.item.Item.{Item}
use Rattle.acc_message.specs.Run.{Cluster, emits, is_node}
use Rattle.acc_safety.specs.Valid.{IsStanding}
use Rattle.acc_actor_laws.proofs.Standing.{not_none}
use Rattle.acc_actor_laws.proofs.OpeningFacts.{some_is}
use Rattle.acc_safety.proofs.Bridge.{same}
use Rattle.acc_payloads.specs.Texts.{has_text}
use Rattle.acc_run_laws.specs.Calls.{IsDeliverable, StoreMeets}
use Rattle.acc_run_laws.proofs.Sendable.{store_meets, is_deliverable}
use Rattle.acc_payloads.specs.Stops.{Past, after_step}
use Rattle.acc_durable_node.specs.declared.name.NodeName.{NodeName}
use Rattle.acc_durable_node.specs.Actor as node
use Rattle.acc_durable_store.specs.declared.name.StoreName.{StoreName}
use Rattle.acc_durable_store.specs.Actor as store
use Rattle.acc_durable_node.specs.declared.actor.NodeActor.{NodeActor}
use Rattle.acc_durable_store.specs.declared.actor.StoreActor.{StoreActor}
use Rattle.acc_schedule.specs.Content.{Content}
use Rattle.acc_schedule.specs.Plan.{IsPlan}
use Rattle.acc_pasts.specs.Entries.{MayTake}
use Rattle.acc_pasts.specs.Stopped.{IsSound}
use Rattle.acc_pasts.proofs.Payloads.{node_payload}
use Rattle.acc_pasts.proofs.Sound.{sound_standing}
use Rattle.acc_schedule_runs.specs.Situations.{Situation, whole}
use Rattle.acc_schedule_runs.specs.Moves.{event_in}
use Rattle.acc_schedule_runs.specs.Schedules.{cluster_of}
use Rattle.acc_payloads.specs.Appends.{fails_append, after_append, passed_in}
use Rattle.acc_schedule_runs.specs.Disks.{Disks}
use Rattle.acc_actors.specs.declared.slot.Slot.{Slot}
use Rattle.acc_actors.specs.declared.slot.Slot.TheVariants.{Node, Store}
use Rattle.acc_actors.specs.Pasts.{node_past, store_past}
use Rattle.acc_actors.specs.Slots.{IsStrictSlot, StaysIn, node_name, store_name, faults_in}
use Rattle.acc_actors.specs.Asked.{step_by, over_disks, IsFew, IsAsked, MayAsk, HasTried, HasTriedStrictly, HasAnswered}
use Rattle.acc_actors.proofs.Few.{few_whole, steps_up, given_counts, refused_counts}
use Rattle.acc_actors.proofs.Refused.{node_stays, store_stays}
use Rattle.acc_actors.proofs.NodeSlots.{took, took_strictly}
use Rattle.acc_actors.proofs.StoreSlots.{store_tried, store_tried_strictly}

-- ---- the message

taken_or : Message → Act → Message
taken_or m (Begins txn body) = m
taken_or m (Recovers id body) = m
taken_or m (Slows id) = m
taken_or m (Takes other) = other
taken_or m Restarts = m

pub message_found : (m : Message) (o : Option Message) → option_map Takes o ≡ Some (Takes m) → o ≡ Some m
unfolding taken_or
message_found m None is = absurd (not_none (Takes m) is)
message_found m (Some x) is = ap Some (ap (taken_or m) (some_is (Takes x) (Takes m) is))

module _ {D : Type 0} (port : Ghosts D) (plan : Content) (a : Actor) (number : ℕ) (m : Message) where
  found : (s : Situation) (slot : Slot D) → IsAsked port plan s (step_by a (MessageEvent number) (Takes m)) slot → message_at (whole s) (length (sent_of s.earlier) + number) ≡ Some m
  found s slot asked = message_found m (message_at (whole s) (length (sent_of s.earlier) + number)) asked.may.act_is

  pub deliverable_at : (s : Situation) → IsSound (cluster_of plan) s → IsFew s → MayTake (cluster_of plan) (whole s) a (event_in s (MessageEvent number)) (Takes m) → IsDeliverable (cluster_of plan) (whole s) m
  deliverable_at s sound few may =
      is_deliverable (cluster_of plan) (whole s) (length (sent_of s.earlier) + number) m (sound_standing (cluster_of plan) s sound) (few_whole s few)
      (message_found m (message_at (whole s) (length (sent_of s.earlier) + number)) may.act_is)

  deliverable : (s : Situation) (slot : Slot D) → IsAsked port plan s (step_by a (MessageEvent number) (Takes m)) slot → IsDeliverable (cluster_of plan) (whole s) m
  deliverable s slot asked = deliverable_at s asked.sound asked.few asked.may

  pub top_low : (slot : Slot D) → MayAsk port plan (step_by a (MessageEvent number) (Takes m)) slot → top_of m < 2 ^ 62
  top_low slot may = (deliverable may.0 slot may.1).top

  one_or_two : (v : ℕ) → (1 ≤ v) × (v ≤ 2) → (v ≡ 1) ⊎ (v ≡ 2)
  one_or_two v h = dite (dec_lt v 2) (λ low. inl (omega (arith, h.0, low))) (λ high. inr (omega (arith, h.1, high)))

  -- no message has a text where no body has one
  abbrev pub NumbersAlone : Type 0
  NumbersAlone =
      (cluster : Cluster) (items : List Item) (number : ℕ) (m : Message) → IsStanding cluster items → AllByRecursion (λ body. has_text_value body ≡ false) cluster.bodies
      → message_at items number ≡ Some m → has_text m ≡ false

  pub text_at : NumbersAlone → (s : Situation) → IsSound (cluster_of plan) s → IsPlan plan → MayTake (cluster_of plan) (whole s) a (event_in s (MessageEvent number)) (Takes m) → has_text m ≡ true
      → plan.version ≡ 2
  text_at numbers_alone s sound valid may has =
      ⊎_elim
      (λ one. absurd (true≢false (sym has ∙ numbers_alone (cluster_of plan) (whole s) (length (sent_of s.earlier) + number) m (sound_standing (cluster_of plan) s sound) (valid.numbers_alone one)
      (message_found m (message_at (whole s) (length (sent_of s.earlier) + number)) may.act_is))))
      (λ two. two) (one_or_two plan.version valid.version)

  module _ (slot : Slot D) (layout : Layout) (layout_is : layout ≡ plan.topology) where
    -- ---- a node

    pub node_took : (n new : NodeActor D) (emitted : Emitted) → slot ≡ Node n
        → ((name : NodeName) (past : Past Act) → node.StandsFor port layout name past n → node.Takes port layout name past (Takes m) new emitted)
        → node.is_down new ≡ false → node.disk_of new ≡ node.disk_of n
        → (s : Situation) → IsAsked port plan s (step_by a (MessageEvent number) (Takes m)) slot → HasTried port plan s a (MessageEvent number) (Node new) (Some emitted)
    node_took n new emitted is ok down disk s asked =
        let here : IsAsked port plan s (step_by a (MessageEvent number) (Takes m)) (Node n) = subst (λ (x : Slot D). IsAsked port plan s (step_by a (MessageEvent number) (Takes m)) x) is asked in
        took port plan s a (MessageEvent number) (Takes m) (ap not here.stands.kind)
        (node_payload (whole s) a (length (sent_of s.earlier) + number) (emits (cluster_of plan) (whole s) a (Takes m)).notes here.stands.kind) here.sound here.up here.may n new emitted here.stands.kind here.stands
        (subst (λ (l : Layout). (name : NodeName) (past : Past Act) → node.StandsFor port l name past n → node.Takes port l name past (Takes m) new emitted) layout_is ok
        (node_name plan (node_of a)) (node_past (cluster_of plan) s a) here.stands.stands)
        down disk

    pub node_took_strictly : (n new : NodeActor D) (emitted : Emitted) → slot ≡ Node n
        → ((name : NodeName) (armed passed : Option ℕ) (past other : Past Act) → node.IsStrictAt port layout name armed passed past n
        → node.IsStrictAt port layout name armed passed other new)
        → (s : Situation) (disks : Disks) → IsAsked port plan s (step_by a (MessageEvent number) (Takes m)) slot → IsStrictSlot port plan s disks a slot
        → HasTriedStrictly port plan (over_disks s disks) a (MessageEvent number) (Node new) (Some emitted)
    node_took_strictly n new emitted is ok s disks asked are =
        let here : IsAsked port plan s (step_by a (MessageEvent number) (Takes m)) (Node n) = subst (λ (x : Slot D). IsAsked port plan s (step_by a (MessageEvent number) (Takes m)) x) is asked in
        took_strictly port plan s a (MessageEvent number) (Takes m) (ap not here.stands.kind)
        (node_payload (whole s) a (length (sent_of s.earlier) + number) (emits (cluster_of plan) (whole s) a (Takes m)).notes here.stands.kind) here.sound here.up here.may disks new emitted
        (λ other. subst (λ (l : Layout). (name : NodeName) (armed passed : Option ℕ) (past other : Past Act) → node.IsStrictAt port l name armed passed past n
        → node.IsStrictAt port l name armed passed other new) layout_is ok
        (node_name plan (node_of a)) (disks.armed a) (disks.passed a) (node_past (cluster_of plan) s a) other
        (subst (λ (x : Slot D). IsStrictSlot port plan s disks a x) is are))

    -- what its slot answers
    module _ (n new : NodeActor D) (is : slot ≡ Node n) (disk : node.disk_of new ≡ node.disk_of n) where
      same_faults : (port.state (node.disk_of new)).faults ≡ faults_in port slot
      same_faults = ap (λ d. (port.state d).faults) disk ∙ sym (ap (faults_in port) is)

      pub node_answers : (emitted : Emitted)
          → ((name : NodeName) (past : Past Act) → node.StandsFor port layout name past n → node.Takes port layout name past (Takes m) new emitted)
          → node.is_down new ≡ false
          → ((name : NodeName) (armed passed : Option ℕ) (past other : Past Act) → node.IsStrictAt port layout name armed passed past n
          → node.IsStrictAt port layout name armed passed other new)
          → HasAnswered port plan (step_by a (MessageEvent number) (Takes m)) slot (Node new) (Ok (Some emitted))
      node_answers emitted ok down strict =
          record {
            ok = node_took n new emitted is ok down disk;
            strict = node_took_strictly n new emitted is strict;
            refused = tt;
            faults = given_counts emitted (faults_in port slot) (port.state (node.disk_of new)).faults same_faults;
          }

      pub node_refuses : (r : Result (Option Emitted) OutOfMemory) → IsErr r → MayAsk port plan (step_by a (MessageEvent number) (Takes m)) slot → node.IsAsBefore port layout n new
          → HasAnswered port plan (step_by a (MessageEvent number) (Takes m)) slot (Node new) r
      node_refuses (Ok given) failed may as_before = absurd (true≢false (sym failed))
      node_refuses (Err e) failed may as_before =
          let asked : IsAsked port plan may.0 (step_by a (MessageEvent number) (Takes m)) (Node n) = subst (λ (x : Slot D). IsAsked port plan may.0 (step_by a (MessageEvent number) (Takes m)) x) is may.1 in
          let up : node.is_down n ≡ false = asked.stands.down ∙ asked.up in
          record {
            ok = tt;
            strict = tt;
            refused = λ still_up. subst (λ (x : Slot D). StaysIn port plan a x (Node new)) (sym is) (node_stays port plan a layout layout_is n new up still_up as_before disk);
            faults = refused_counts e (faults_in port slot) (port.state (node.disk_of new)).faults same_faults;
          }

    -- ---- a store

    module _ (t : StoreActor D) (is : slot ≡ Store t) where
      there : (s : Situation) → IsAsked port plan s (step_by a (MessageEvent number) (Takes m)) slot → IsAsked port plan s (step_by a (MessageEvent number) (Takes m)) (Store t)
      there s asked = subst (λ (x : Slot D). IsAsked port plan s (step_by a (MessageEvent number) (Takes m)) x) is asked

      pub may_take : NumbersAlone → IsPlan plan → MayAsk port plan (step_by a (MessageEvent number) (Takes m)) slot → store.MayTake port layout t [] m
      may_take numbers_alone valid may =
          let s : Situation = may.0 in
          let asked : IsAsked port plan s (step_by a (MessageEvent number) (Takes m)) (Store t) = there s may.1 in
          let told : IsDeliverable (cluster_of plan) (whole s) m = deliverable s (Store t) asked in
          let meets : StoreMeets (cluster_of plan) (whole s) a = store_meets (cluster_of plan) (whole s) a (sound_standing (cluster_of plan) s asked.sound) (few_whole s asked.few) asked.stands.kind in
          let here = same _ a asked.may.place in
          subst (λ (l : Layout). store.MayTake port l t [] m) (sym layout_is) (record {
            name = store_name plan a;
            past = store_past (cluster_of plan) s a;
            stands = asked.stands.stands;
            short = told.short asked.sound.few_bodies;
            goes_here = record { goes_to = here; brings = told.brings (ap is_node here ∙ asked.stands.kind) };
            top = told.top;
            greatest = meets.greatest;
            texts = text_at numbers_alone s asked.sound valid asked.may;
          })

      pub store_called : (new : StoreActor D) (r : Result (Option Emitted) OutOfMemory)
          → IfOk r (λ given. (name : StoreName) (past : Past Message) → store.StandsFor port layout name past t → store.Steps port layout name past (store.message_stop number m) new given)
          → IfOk r (λ given. store.is_down new ≡ is_none given) → (port.state (store.disk_of t)).faults ≤ (port.state (store.disk_of new)).faults
          → (r ≡ Ok None → Rose (port.state (store.disk_of t)).faults (port.state (store.disk_of new)).faults)
          → IfOk r (λ given. (s : Situation) → IsAsked port plan s (step_by a (MessageEvent number) (Takes m)) slot → HasTried port plan s a (MessageEvent number) (Store new) given)
      store_called new (Err e) ok down counted cause = tt
      store_called new (Ok given) ok down counted cause = λ s asked.
          let here : IsAsked port plan s (step_by a (MessageEvent number) (Takes m)) (Store t) = there s asked in
          store_tried port plan s a number m here.stands.kind here.sound here.up here.may (found s (Store t) here) t new given here
          (subst (λ (l : Layout). (name : StoreName) (past : Past Message) → store.StandsFor port l name past t → store.Steps port l name past (store.message_stop number m) new given) layout_is ok
          (store_name plan a) (store_past (cluster_of plan) s a) here.stands.stands)
          down counted (λ none. cause (ap Ok none))

      pub store_called_strictly : (new : StoreActor D) (r : Result (Option Emitted) OutOfMemory)
          → ((name : StoreName) (armed passed : Option ℕ) (past : Past Message) → store.StandsFor port layout name past t
          → store.IsStrictAt port layout name armed passed past t
          → IfOk r (λ given. (is_none given ≡ fails_append armed)
          × store.IsStrictAt port layout name (after_append armed) (passed_in armed) (after_step given past (store.message_stop number m)) new))
          → IfOk r (λ given. (s : Situation) (disks : Disks) → IsAsked port plan s (step_by a (MessageEvent number) (Takes m)) slot
          → IsStrictSlot port plan s disks a slot → HasTriedStrictly port plan (over_disks s disks) a (MessageEvent number) (Store new) given)
      store_called_strictly new (Err e) ok = tt
      store_called_strictly new (Ok given) ok = λ s disks asked are.
          let here : IsAsked port plan s (step_by a (MessageEvent number) (Takes m)) (Store t) = there s asked in
          store_tried_strictly port plan s a number m here.stands.kind here.sound here.up here.may (found s (Store t) here) disks new given
          (subst (λ (l : Layout). (name : StoreName) (armed passed : Option ℕ) (past : Past Message) → store.StandsFor port l name past t
          → store.IsStrictAt port l name armed passed past t
          → (is_none given ≡ fails_append armed)
          × store.IsStrictAt port l name (after_append armed) (passed_in armed) (after_step given past (store.message_stop number m)) new) layout_is ok
          (store_name plan a) (disks.armed a) (disks.passed a) (store_past (cluster_of plan) s a) here.stands.stands
          (subst (λ (x : Slot D). IsStrictSlot port plan s disks a x) is are))

      store_refused : (new : StoreActor D) (r : Result (Option Emitted) OutOfMemory) → MayAsk port plan (step_by a (MessageEvent number) (Takes m)) slot
          → OnErr r (store.is_down new ≡ false → store.IsAsBefore port layout t new × (store.disk_of new ≡ store.disk_of t))
          → OnErr r (store.is_down new ≡ false → StaysIn port plan a slot (Store new))
      store_refused new (Ok given) may left = tt
      store_refused new (Err e) may left = λ still_up.
          let asked : IsAsked port plan may.0 (step_by a (MessageEvent number) (Takes m)) (Store t) = there may.0 may.1 in
          let up : store.is_down t ≡ false = asked.stands.down ∙ asked.up in
          let as_before = left still_up in
          subst (λ (x : Slot D). StaysIn port plan a x (Store new)) (sym is) (store_stays port plan a layout layout_is t new up still_up as_before.0 as_before.1)

      -- what its slot answers
      pub store_answers : (new : StoreActor D) (r : Result (Option Emitted) OutOfMemory)
          → IfOk r (λ given. (name : StoreName) (past : Past Message) → store.StandsFor port layout name past t → store.Steps port layout name past (store.message_stop number m) new given)
          → IfOk r (λ given. store.is_down new ≡ is_none given)
          → CountsFaults (r ≡ Ok None) (port.state (store.disk_of t)).faults (port.state (store.disk_of new)).faults
          → ((name : StoreName) (armed passed : Option ℕ) (past : Past Message) → store.StandsFor port layout name past t
          → store.IsStrictAt port layout name armed passed past t
          → IfOk r (λ given. (is_none given ≡ fails_append armed)
          × store.IsStrictAt port layout name (after_append armed) (passed_in armed) (after_step given past (store.message_stop number m)) new))
          → MayAsk port plan (step_by a (MessageEvent number) (Takes m)) slot
          → OnErr r (store.is_down new ≡ false → store.IsAsBefore port layout t new × (store.disk_of new ≡ store.disk_of t))
          → HasAnswered port plan (step_by a (MessageEvent number) (Takes m)) slot (Store new) r
      store_answers new r ok down counts strict may left =
          record {
            ok = store_called new r ok down (steps_up r _ _ counts) counts.cause;
            strict = store_called_strictly new r strict;
            refused = store_refused new r may left;
            faults = subst (λ (x : Slot D). CountsFaults (r ≡ Ok None) (faults_in port x) (port.state (store.disk_of new)).faults) (sym is) counts;
          }
