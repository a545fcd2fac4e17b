-- From what the calls of a store that takes a group ensure to what its slot is.
use Rattle.std.proofs.Common.{◌≡◌, ◌≢◌, ℕ, ◌≤◌, true, false, List, [], ◌∷◌, ◌++◌, Option, None, Result, Ok, Err, IfOk, OnOk, OnErr, is_none, refl, sym, ◌∙◌, ap, subst}
use Rattle.std.proofs.lemmas.Result.{on_ok_weaker}
use Rattle.acc_base.specs.declared.memory.OutOfMemory.{OutOfMemory}
use Rattle.acc_stamp.specs.declared.actors.Actor.{Actor}
use Rattle.acc_topology.specs.Layout.{Layout}
use Rattle.acc_ports.specs.declared.disk.Disk.{Ghosts}
use Rattle.acc_ports.specs.Faults.{Rose, CountsFaults}
use Rattle.acc_message.specs.declared.message.Message.{Message}
use Rattle.acc_message.specs.declared.entry.Event.{Event}
use Rattle.acc_message.specs.declared.entry.Event.TheVariants.{Message as TakesMessage}
use Rattle.acc_message.specs.NodeRules.{Takes}
use Rattle.acc_message.specs.Run.{is_node}
use Rattle.acc_message_code.specs.Weight.{weight_of_all, weight_of}
use Rattle.acc_payloads.specs.Items.{downs_in}
use Rattle.acc_payloads.specs.declared.stops.Unsent.{Unsent}
use Rattle.acc_durable_node.specs.declared.actor.NodeActor.{NodeActor}
use Rattle.acc_durable_store.specs.declared.actor.StoreActor.{StoreActor}
use Rattle.acc_payloads.specs.Stops.{Stop, Past, kept_with, after_group}
use Rattle.acc_durable_store.specs.declared.name.StoreName.{StoreName}
use Rattle.acc_durable_store.specs.Actor as store
use Rattle.acc_durable_store.specs.Weighing.{StoreMayWeigh}
use Rattle.acc_schedule.specs.Content.{Content}
use Rattle.acc_schedule.specs.Plan.{IsPlan}
use Rattle.acc_schedule_runs.specs.Situations.{Situation}
use Rattle.acc_schedule_runs.specs.Moves.{entry_of, entered_all}
use Rattle.acc_schedule_runs.specs.Schedules.{cluster_of}
use Rattle.acc_payloads.specs.Appends.{fails_append, after_append, passed_in}
use Rattle.acc_schedule_runs.specs.Disks.{Disks}
use Rattle.acc_actors.specs.declared.slot.Slot.{Slot}
use Rattle.acc_actors.specs.declared.slot.Slot.TheVariants.{Node, Store}
use Rattle.acc_actors.specs.Pasts.{stops_in, store_stops, store_past}
use Rattle.acc_actors.specs.Slots.{StoreStages, SlotStages, IsStrictSlot, faults_in, store_name}
use Rattle.acc_actors.specs.Asked.{step_by, over_disks, IsStaged, IsAsked, MayAsk, IsAskedBehind, MayAskBehind, HasSettled, HasSettledStrictly, HasAnsweredAll}
use Rattle.acc_actors.proofs.Few.{steps_up}
use Rattle.acc_actors.proofs.Takes.{NumbersAlone}
use Rattle.acc_actors.proofs.Groups.{stages_more, takes_more, weighs_more, weight_is, stops_some, settles, settles_strictly}

-- after nothing
pub asked_alone : {D : Type 0} (port : Ghosts D) (plan : Content) (s : Situation) (a : Actor) (number : ℕ) (m : Message) (slot : Slot D)
    → IsAskedBehind port plan s [] (step_by a (TakesMessage number) (Takes m)) slot → IsAsked port plan s (step_by a (TakesMessage number) (Takes m)) slot
asked_alone port plan s a number m slot asked =
    record { sound = asked.behind.sound; few = asked.behind.few.0; stands = asked.behind.stands; up = asked.behind.up; may = asked.may }

module _ {D : Type 0} (port : Ghosts D) (plan : Content) (a : Actor) (slot : Slot D) (number : ℕ) (m : Message) where
  abbrev AskedAt : Situation → List Event → Slot D → Type 0
  AskedAt s staged x = IsAskedBehind port plan s staged (step_by a (TakesMessage number) (Takes m)) x

  -- ---- a node has nothing staged

  pub node_asked : (n : NodeActor D) → slot ≡ Node n → (s : Situation) (staged : List Event) → AskedAt s staged slot
      → (staged ≡ []) × IsAsked port plan s (step_by a (TakesMessage number) (Takes m)) slot
  node_asked n is s [] asked = (refl, asked_alone port plan s a number m slot asked)
  node_asked n is s (event ∷ events) asked = absurd (subst (λ (x : Slot D). SlotStages port plan s a (event ∷ events) x) is asked.behind.stands)

  pub node_may_ask : (n : NodeActor D) → slot ≡ Node n → MayAskBehind port plan (step_by a (TakesMessage number) (Takes m)) slot → MayAsk port plan (step_by a (TakesMessage number) (Takes m)) slot
  node_may_ask n is may = (may.0, (node_asked n is may.0 may.1 may.2).1)

  pub node_weighs_behind : (n : NodeActor D) → slot ≡ Node n → {E : Type 0} (r : Result ℕ E)
      → IfOk r (λ weight. (s : Situation) → IsAsked port plan s (step_by a (TakesMessage number) (Takes m)) slot → weight ≡ weight_of (entry_of (cluster_of plan) s a (TakesMessage number) false))
      → IfOk r (λ weight. (s : Situation) (staged : List Event) → AskedAt s staged slot
      → weight ≡ weight_of (entry_of (cluster_of plan) (entered_all (cluster_of plan) s a staged false) a (TakesMessage number) false))
  node_weighs_behind n is (Err e) h = tt
  node_weighs_behind n is (Ok weight) h = λ s staged asked.
      let alone = node_asked n is s staged asked in
      subst (λ (events : List Event). weight ≡ weight_of (entry_of (cluster_of plan) (entered_all (cluster_of plan) s a events false) a (TakesMessage number) false)) (sym alone.0) (h s alone.1)

  -- ---- a store

  module _ (layout : Layout) (layout_is : layout ≡ plan.topology) (t : StoreActor D) (is : slot ≡ Store t) where
    there : (s : Situation) (staged : List Event) → AskedAt s staged slot → AskedAt s staged (Store t)
    there s staged asked = subst (λ (x : Slot D). AskedAt s staged x) is asked

    pub store_up : MayAskBehind port plan (step_by a (TakesMessage number) (Takes m)) slot → store.is_down t ≡ false
    store_up may = let asked = there may.0 may.1 may.2 in asked.behind.stands.down ∙ asked.behind.up

    pub may_stage : NumbersAlone port plan a number m → IsPlan plan → MayAskBehind port plan (step_by a (TakesMessage number) (Takes m)) slot → store.MayStage port layout t m
    may_stage numbers_alone valid may =
        let s : Situation = may.0 in
        let asked = there s may.1 may.2 in (
          store_stops (stops_in (cluster_of plan) s a may.1 false),
          subst (λ (l : Layout). store.MayTake port l t (store_stops (stops_in (cluster_of plan) s a may.1 false)) m) (sym layout_is)
              (takes_more port plan s a may.1 t asked.behind number m asked.may numbers_alone valid),
        )

    pub may_weigh : NumbersAlone port plan a number m → IsPlan plan → MayAskBehind port plan (step_by a (TakesMessage number) (Takes m)) slot → StoreMayWeigh port layout t m
    may_weigh numbers_alone valid may =
        let asked = there may.0 may.1 may.2 in
        subst (λ (l : Layout). StoreMayWeigh port l t m) (sym layout_is) (weighs_more port plan may.0 a may.1 t asked.behind number m asked.may numbers_alone valid)

    pub store_weighs : {E : Type 0} (r : Result ℕ E)
        → IfOk r (λ weight. (name : StoreName) (past : Past Message) (staged : List (Stop Message)) → store.IsStaging port layout name past staged t
        → weight ≡ weight_of_all (store.emits_next layout name.actor (kept_with staged past) m).out)
        → IfOk r (λ weight. (s : Situation) (staged : List Event) → AskedAt s staged slot
        → weight ≡ weight_of (entry_of (cluster_of plan) (entered_all (cluster_of plan) s a staged false) a (TakesMessage number) false))
    store_weighs (Err e) is_weight = tt
    store_weighs (Ok weight) is_weight = λ s staged asked.
        let here = there s staged asked in
        subst (λ (l : Layout). (name : StoreName) (past : Past Message) (staged : List (Stop Message)) → store.IsStaging port l name past staged t
        → weight ≡ weight_of_all (store.emits_next l name.actor (kept_with staged past) m).out) layout_is is_weight
        (store_name plan a) (store_past (cluster_of plan) s a) (store_stops (stops_in (cluster_of plan) s a staged false)) here.behind.stands.stands
        ∙ weight_is port plan s a staged t here.behind number m here.may

    -- staged
    pub stage_called : {T : Type 0} (r : Result T OutOfMemory) (new : StoreActor D)
        → OnOk r ((name : StoreName) (past : Past Message) (staged : List (Stop Message)) → store.IsStaging port layout name past staged t
        → store.IsStaging port layout name past (staged ++ store.message_stop number m ∷ []) new)
        → store.is_down new ≡ false → store.disk_of new ≡ store.disk_of t
        → OnOk r ((s : Situation) (staged : List Event) → AskedAt s staged slot → SlotStages port plan s a (staged ++ TakesMessage number ∷ []) (Store new))
    stage_called r new ok up disk =
        on_ok_weaker r
        (λ (told : (name : StoreName) (past : Past Message) (staged : List (Stop Message)) → store.IsStaging port layout name past staged t
        → store.IsStaging port layout name past (staged ++ store.message_stop number m ∷ []) new) s staged asked.
        let here = there s staged asked in
        stages_more port plan s a staged t here.behind number m here.may new
        (subst (λ (l : Layout). (name : StoreName) (past : Past Message) (staged : List (Stop Message)) → store.IsStaging port l name past staged t
        → store.IsStaging port l name past (staged ++ store.message_stop number m ∷ []) new) layout_is told
        (store_name plan a) (store_past (cluster_of plan) s a) (store_stops (stops_in (cluster_of plan) s a staged false)) here.behind.stands.stands)
        up disk) ok

    -- refused
    pub stage_refused : {T : Type 0} (r : Result T OutOfMemory) (new : StoreActor D) → MayAskBehind port plan (step_by a (TakesMessage number) (Takes m)) slot
        → OnErr r ((name : StoreName) (past : Past Message) (staged : List (Stop Message)) → store.IsStaging port layout name past staged t
        → store.IsStaging port layout name past staged new)
        → store.is_down new ≡ false → store.disk_of new ≡ store.disk_of t
        → OnErr r ((s : Situation) (staged : List Event) → SlotStages port plan s a staged slot → SlotStages port plan s a staged (Store new))
    stage_refused (Ok x) new may err up disk = tt
    stage_refused (Err e) new may err up disk = λ s staged stands.
        let here : StoreStages port plan s a staged t = subst (λ (x : Slot D). SlotStages port plan s a staged x) is stands in
        record {
          kind = here.kind;
          stands =
              subst (λ (l : Layout). (name : StoreName) (past : Past Message) (staged : List (Stop Message)) → store.IsStaging port l name past staged t
              → store.IsStaging port l name past staged new) layout_is err
              (store_name plan a) (store_past (cluster_of plan) s a) (store_stops (stops_in (cluster_of plan) s a staged false)) here.stands;
          down = up ∙ sym (store_up may) ∙ here.down;
          counted = subst (λ d. downs_in a s.own ≤ (port.state d).faults) (sym disk) here.counted;
        }

    pub stage_strictly : (new : StoreActor D)
        → ((name : StoreName) (armed passed : Option ℕ) (past other : Past Message) → store.IsStrictAt port layout name armed passed past t
        → store.IsStrictAt port layout name armed passed other new)
        → (s : Situation) (disks : Disks) → IsStrictSlot port plan s disks a slot → IsStrictSlot port plan s disks a (Store new)
    stage_strictly new told s disks are =
        subst (λ (l : Layout). (name : StoreName) (armed passed : Option ℕ) (past other : Past Message) → store.IsStrictAt port l name armed passed past t
        → store.IsStrictAt port l name armed passed other new) layout_is told
        (store_name plan a) (disks.armed a) (disks.passed a) (store_past (cluster_of plan) s a) (store_past (cluster_of plan) s a)
        (subst (λ (x : Slot D). IsStrictSlot port plan s disks a x) is are)

    pub stage_faults : (new : StoreActor D) → store.disk_of new ≡ store.disk_of t → faults_in port (Store new) ≡ faults_in port slot
    stage_faults new disk = ap (λ (d : D). (port.state d).faults) disk ∙ sym (ap (faults_in port) is)

-- ---- settled

module _ {D : Type 0} (port : Ghosts D) (plan : Content) (a : Actor) (slot : Slot D) (t : StoreActor D) (is : slot ≡ Store t) where
  there_staged : (s : Situation) (staged : List Event) → IsStaged port plan s a staged slot → IsStaged port plan s a staged (Store t)
  there_staged s staged h = subst (λ (x : Slot D). IsStaged port plan s a staged x) is h

  pub settle_up : (s : Situation) × (staged : List Event) × IsStaged port plan s a staged slot → store.is_down t ≡ false
  settle_up may = let here = there_staged may.0 may.1 may.2 in here.stands.down ∙ here.up

  pub may_settle : (s : Situation) × (staged : List Event) × IsStaged port plan s a staged slot → store.MaySettle port t
  may_settle may =
      record {
        layout = plan.topology;
        name = store_name plan a;
        past = store_past (cluster_of plan) may.0 a;
        staged = store_stops (stops_in (cluster_of plan) may.0 a may.1 false);
        stands = (there_staged may.0 may.1 may.2).stands.stands;
      }

  pub settle_called : (r : Result (Option (List Unsent)) OutOfMemory) (new : StoreActor D)
      → IfOk r (λ given. (layout : Layout) (name : StoreName) (past : Past Message) (staged : List (Stop Message)) → store.IsStaging port layout name past staged t
      → store.Settles port layout name past staged new given)
      → IfOk r (λ given. store.is_down new ≡ is_none given) → (port.state (store.disk_of t)).faults ≤ (port.state (store.disk_of new)).faults
      → (r ≡ Ok None → Rose (port.state (store.disk_of t)).faults (port.state (store.disk_of new)).faults)
      → IfOk r (λ given. (s : Situation) (staged : List Event) → IsStaged port plan s a staged slot → HasSettled port plan s a staged (Store new) given)
  settle_called (Err e) new ok down counted cause = tt
  settle_called (Ok given) new ok down counted cause = λ s staged h.
      let here = there_staged s staged h in
      settles port plan s a staged t here new given
      (ok plan.topology (store_name plan a) (store_past (cluster_of plan) s a) (store_stops (stops_in (cluster_of plan) s a staged false)) here.stands.stands)
      down counted (λ none. cause (ap Ok none))

  pub settle_called_strictly : (r : Result (Option (List Unsent)) OutOfMemory) (new : StoreActor D)
      → ((layout : Layout) (name : StoreName) (armed passed : Option ℕ) (past : Past Message) (staged : List (Stop Message)) → store.IsStaging port layout name past staged t
      → store.IsStrictAt port layout name armed passed past t → staged ≢ []
      → IfOk r (λ given. (is_none given ≡ fails_append armed)
      × store.IsStrictAt port layout name (after_append armed) (passed_in armed) (after_group given past staged) new))
      → IfOk r (λ given. (s : Situation) (staged : List Event) (disks : Disks) → IsStaged port plan s a staged slot → staged ≢ []
      → IsStrictSlot port plan s disks a slot → HasSettledStrictly port plan (over_disks s disks) a staged (Store new) given)
  settle_called_strictly (Err e) new ok = tt
  settle_called_strictly (Ok given) new ok = λ s staged disks h some are.
      let here = there_staged s staged h in
      settles_strictly port plan s a staged t here disks new given
      (ok plan.topology (store_name plan a) (disks.armed a) (disks.passed a) (store_past (cluster_of plan) s a) (store_stops (stops_in (cluster_of plan) s a staged false)) here.stands.stands
      (subst (λ (x : Slot D). IsStrictSlot port plan s disks a x) is are)
      (stops_some port plan s a staged t here some))

  -- where memory was refused
  settle_refused : (r : Result (Option (List Unsent)) OutOfMemory) (new : StoreActor D) → OnErr r (store.is_down new ≡ true) → OnErr r (is_node a ≡ false → store.is_down new ≡ true)
  settle_refused (Ok given) new broken = tt
  settle_refused (Err e) new broken = λ kind. broken

  -- what its slot answers
  pub settle_answers : (r : Result (Option (List Unsent)) OutOfMemory) (new : StoreActor D)
      → IfOk r (λ given. (layout : Layout) (name : StoreName) (past : Past Message) (staged : List (Stop Message)) → store.IsStaging port layout name past staged t
      → store.Settles port layout name past staged new given)
      → IfOk r (λ given. store.is_down new ≡ is_none given)
      → CountsFaults (r ≡ Ok None) (port.state (store.disk_of t)).faults (port.state (store.disk_of new)).faults
      → ((layout : Layout) (name : StoreName) (armed passed : Option ℕ) (past : Past Message) (staged : List (Stop Message)) → store.IsStaging port layout name past staged t
      → store.IsStrictAt port layout name armed passed past t → staged ≢ []
      → IfOk r (λ given. (is_none given ≡ fails_append armed)
      × store.IsStrictAt port layout name (after_append armed) (passed_in armed) (after_group given past staged) new))
      → OnErr r (store.is_down new ≡ true)
      → HasAnsweredAll port plan a slot (Store new) r
  settle_answers r new ok down counts strict broken =
      record {
        ok = settle_called r new ok down (steps_up r _ _ counts) counts.cause;
        strict = settle_called_strictly r new strict;
        refused = settle_refused r new broken;
        faults = subst (λ (x : Slot D). CountsFaults (r ≡ Ok None) (faults_in port x) (port.state (store.disk_of new)).faults) (sym is) counts;
      }
