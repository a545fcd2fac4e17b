-- From what a node ensures of a slow to what its slot has tried.
use Rattle.std.proofs.Common.{◌≡◌, ℕ, ◌≤◌, Bool, true, false, List, Option, None, Some, unwrap_or, Result, Ok, Err, IfOk, IfErr, OnErr, refl, sym, ◌∙◌, ap, subst}
use Rattle.std.specs.List.{slice_get}
use Rattle.acc_stamp.specs.declared.actors.Actor.{Actor}
use Rattle.acc_stamp.specs.Actor.{node_of, actor_of}
use Rattle.acc_topology.specs.Layout.{Layout}
use Rattle.acc_ports.specs.declared.disk.Disk.{Ghosts}
use Rattle.acc_message.specs.declared.entry.Emitted.{Emitted}
use Rattle.acc_message.specs.declared.entry.Event.TheVariants.{Slow as SlowEvent}
use Rattle.acc_message.specs.Items.{id_of_txn}
use Rattle.acc_message.specs.NodeRules.{Act, Deed, Slows, begun_id}
use Rattle.acc_message.specs.Run.{Cluster, clock_start, deeds_of, EachStands}
use Rattle.acc_run_laws.specs.Asks.{slow_skip, home_of_txn}
use Rattle.acc_safety.proofs.Bridge.{node_is_actor}
use Rattle.acc_safety.proofs.DrawFacts.{node_is}
use Rattle.acc_payloads.specs.Items.{downs_in}
use Rattle.acc_node.specs.declared.error.NodeError.{NodeError}
use Rattle.acc_node.specs.declared.error.NodeError.TheVariants.{Begun, Unknown, NoQuorum, OutOfMemory}
use Rattle.acc_node.specs.Stands.{is_first_voting, has_majority, if_begun, may_slow, is_answered}
use Rattle.acc_payloads.specs.Stops.{Past}
use Rattle.acc_durable_node.specs.declared.name.NodeName.{NodeName}
use Rattle.acc_durable_node.specs.Names.{deeds_by, IsSlowAnswer}
use Rattle.acc_durable_node.specs.Actor as node
use Rattle.acc_durable_node.specs.declared.actor.NodeActor.{NodeActor}
use Rattle.acc_schedule.specs.Content.{Content}
use Rattle.acc_pasts.specs.Slowing.{slow_cause}
use Rattle.acc_pasts.proofs.Slowed.{slow_is_told}
use Rattle.acc_pasts.specs.Entries.{MayTake}
use Rattle.acc_pasts.proofs.Replayed.{node_replayed}
use Rattle.acc_pasts.proofs.SlowingFacts.{begun_at_home}
use Rattle.acc_pasts.proofs.Sound.{sound_standing}
use Rattle.acc_pasts.proofs.Standing.{slow_may}
use Rattle.acc_schedule_runs.specs.Situations.{Situation, whole}
use Rattle.acc_schedule_runs.specs.Schedules.{cluster_of}
use Rattle.acc_schedule_runs.specs.Disks.{Disks}
use Rattle.acc_actors.specs.declared.slot.Slot.{Slot}
use Rattle.acc_actors.specs.declared.slot.Slot.TheVariants.{Node}
use Rattle.acc_actors.specs.Pasts.{node_past}
use Rattle.acc_actors.specs.Slots.{SlotStands, IsStrictSlot, node_name}
use Rattle.acc_actors.specs.Asked.{over_disks, HasTried, HasTriedStrictly, IsHomeUp, skips_slow, IsSlowRefused}
use Rattle.acc_actors.proofs.NodeSlots.{took, took_strictly}

-- ---- the home and its slot

module _ {D : Type 0} (port : Ghosts D) (plan : Content) (a : Actor) (txn : ℕ) (n : NodeActor D) (s : Situation)
    (home : IsHomeUp port plan s a txn (Node n)) where
  abbrev cluster : Cluster
  cluster = cluster_of plan

  abbrev start : ℕ
  start = clock_start plan.starts (node_of a)

  abbrev past : Past Act
  past = node_past cluster s a

  abbrev done : List Deed
  done = deeds_by plan.topology (node_name plan (node_of a)) past.acts

  each : EachStands cluster (whole s)
  each = (sound_standing cluster s home.sound).stands

  home_at : slice_get cluster.homes txn ≡ Some (node_of a)
  home_at = home.home.1 ∙ ap Some (sym (ap node_of home.home.2 ∙ node_is home.home.0))

  home_is_a : home_of_txn cluster txn ≡ a
  home_is_a = ap (λ o. actor_of (unwrap_or o 0) 0) home.home.1 ∙ sym home.home.2

  done_there : deeds_of cluster (actor_of (node_of a) 0) (whole s) ≡ done
  done_there =
      ap (λ (b : Actor). deeds_of cluster b (whole s)) (node_is_actor a home.stands.kind)
      ∙ node_replayed cluster (whole s) a (sound_standing cluster s home.sound) home.stands.kind

  -- why it is passed over
  pub told : skips_slow plan s txn ≡ slow_cause txn (may_slow plan.topology (node_of a) start txn done) (is_answered plan.topology (node_of a) start txn done)
  told =
      slow_is_told cluster txn (node_of a) home_at (whole s) each
      ∙ ap (λ (deeds : List Deed). slow_cause txn (may_slow plan.topology (node_of a) start txn deeds) (is_answered plan.topology (node_of a) start txn deeds)) done_there

  -- ---- it gives the fast path up

  module _ (new : NodeActor D) (emitted : Emitted) (slowed : node.HasSlowed port plan.topology (node_name plan (node_of a)) past txn new emitted) where
    may_be_slowed : may_slow plan.topology (node_of a) start txn done ≡ true
    may_be_slowed = ap (if_begun plan.topology (node_of a) start done (λ x attempt. is_first_voting attempt)) slowed.begun ∙ slowed.waits

    answered : is_answered plan.topology (node_of a) start txn done ≡ true
    answered = ap (if_begun plan.topology (node_of a) start done (has_majority plan.topology)) slowed.begun ∙ slowed.majority

    goes : skips_slow plan s txn ≡ None
    goes =
        told
        ∙ ap (λ b. slow_cause txn b (is_answered plan.topology (node_of a) start txn done)) may_be_slowed
        ∙ ap (λ b. slow_cause txn true b) answered

    id_is : id_of_txn (whole s) txn ≡ Some slowed.id
    id_is =
        sym (begun_at_home cluster txn (node_of a) home_at (whole s) each)
        ∙ ap (λ (deeds : List Deed). begun_id (node_of a) start txn deeds) done_there ∙ slowed.begun

    may : MayTake cluster (whole s) a (SlowEvent txn) (Slows slowed.id)
    may =
        subst (λ (b : Actor). MayTake cluster (whole s) b (SlowEvent txn) (Slows slowed.id)) home_is_a
        (slow_may cluster (whole s) txn slowed.id each id_is (sym (ap (slow_skip cluster (whole s) txn) id_is) ∙ goes))

    pub has_slowed : node.is_down new ≡ false → node.disk_of new ≡ node.disk_of n
        → (skips_slow plan s txn ≡ None) × HasTried port plan s a (SlowEvent txn) (Node new) (Some emitted)
    has_slowed down disk = (
      goes,
      took port plan s a (SlowEvent txn) (Slows slowed.id) refl refl home.sound home.up may n new emitted home.stands.kind home.stands slowed.takes down disk,
    )

    pub has_slowed_strictly : (disks : Disks)
        → ((other : Past Act) → node.IsStrictAt port plan.topology (node_name plan (node_of a)) (disks.armed a) (disks.passed a) other new)
        → HasTriedStrictly port plan (over_disks s disks) a (SlowEvent txn) (Node new) (Some emitted)
    has_slowed_strictly disks later =
        took_strictly port plan s a (SlowEvent txn) (Slows slowed.id) refl refl home.sound home.up may disks new emitted later

-- ---- what the call ensures

module _ {D : Type 0} (port : Ghosts D) (plan : Content) (a : Actor) (txn : ℕ) (slot : Slot D) (n : NodeActor D) (is : slot ≡ Node n)
    (layout : Layout) (layout_is : layout ≡ plan.topology) where
  there : (s : Situation) → IsHomeUp port plan s a txn slot → IsHomeUp port plan s a txn (Node n)
  there s home = subst (λ (x : Slot D). IsHomeUp port plan s a txn x) is home

  pub home_is_up : (s : Situation) × IsHomeUp port plan s a txn slot → node.is_down n ≡ false
  home_is_up home =
      let here : IsHomeUp port plan home.0 a txn (Node n) = there home.0 home.1 in
      here.stands.down ∙ here.up

  module _ (new : NodeActor D) (down : node.is_down new ≡ false) (disk : node.disk_of new ≡ node.disk_of n) where
    slowed_at : (s : Situation) → IsHomeUp port plan s a txn slot → (emitted : Emitted)
        → ((name : NodeName) (past : Past Act) → node.StandsFor port layout name past n → node.HasSlowed port layout name past txn new emitted)
        → node.HasSlowed port plan.topology (node_name plan (node_of a)) (node_past (cluster_of plan) s a) txn new emitted
    slowed_at s home emitted ok =
        let here : IsHomeUp port plan s a txn (Node n) = there s home in
        subst (λ (l : Layout). (name : NodeName) (past : Past Act) → node.StandsFor port l name past n → node.HasSlowed port l name past txn new emitted)
        layout_is ok (node_name plan (node_of a)) (node_past (cluster_of plan) s a) here.stands.stands

    pub slow_ok : (r : Result Emitted NodeError)
        → IfOk r (λ emitted. (name : NodeName) (past : Past Act) → node.StandsFor port layout name past n → node.HasSlowed port layout name past txn new emitted)
        → IfOk r (λ emitted. (s : Situation) → IsHomeUp port plan s a txn slot
        → (skips_slow plan s txn ≡ None) × HasTried port plan s a (SlowEvent txn) (Node new) (Some emitted))
    slow_ok (Err e) ok = tt
    slow_ok (Ok emitted) ok = λ s home. has_slowed port plan a txn n s (there s home) new emitted (slowed_at s home emitted ok) down disk

    pub slow_as_before : (r : Result Emitted NodeError)
        → OnErr r ((name : NodeName) (past : Past Act) → node.StandsFor port layout name past n → node.StandsFor port layout name past new)
        → OnErr r ((s : Situation) → IsHomeUp port plan s a txn slot → SlotStands port plan s a (Node new))
    slow_as_before (Ok emitted) err = tt
    slow_as_before (Err e) err = λ s home.
        let here : IsHomeUp port plan s a txn (Node n) = there s home in
        record {
          kind = here.stands.kind;
          stands =
              subst (λ (l : Layout). (name : NodeName) (past : Past Act) → node.StandsFor port l name past n → node.StandsFor port l name past new)
              layout_is err (node_name plan (node_of a)) (node_past (cluster_of plan) s a) here.stands.stands;
          down = down ∙ sym here.up;
          counted = subst (λ d. downs_in a s.own ≤ (port.state d).faults) (sym disk) here.stands.counted;
        }

    module _
        (strictly : (name : NodeName) (armed passed : Option ℕ) (past other : Past Act)
        → node.IsStrictAt port layout name armed passed past n
        → node.IsStrictAt port layout name armed passed other new) where
      later : (s : Situation) (disks : Disks) → IsStrictSlot port plan s disks a slot → (other : Past Act)
          → node.IsStrictAt port plan.topology (node_name plan (node_of a)) (disks.armed a) (disks.passed a) other new
      later s disks are other =
          subst (λ (l : Layout). (name : NodeName) (armed passed : Option ℕ) (past other : Past Act)
          → node.IsStrictAt port l name armed passed past n
          → node.IsStrictAt port l name armed passed other new)
          layout_is strictly (node_name plan (node_of a)) (disks.armed a) (disks.passed a) (node_past (cluster_of plan) s a) other
          (subst (λ (x : Slot D). IsStrictSlot port plan s disks a x) is are)

      pub slow_strictly : (r : Result Emitted NodeError)
          → IfOk r (λ emitted. (name : NodeName) (past : Past Act) → node.StandsFor port layout name past n → node.HasSlowed port layout name past txn new emitted)
          → IfOk r (λ emitted. (s : Situation) (disks : Disks) → IsHomeUp port plan s a txn slot
          → IsStrictSlot port plan s disks a slot → HasTriedStrictly port plan (over_disks s disks) a (SlowEvent txn) (Node new) (Some emitted))
      slow_strictly (Err e) ok = tt
      slow_strictly (Ok emitted) ok = λ s disks home are.
          has_slowed_strictly port plan a txn n s (there s home) new emitted (slowed_at s home emitted ok) disks (later s disks are)

      pub slow_strict_as_before : (r : Result Emitted NodeError)
          → OnErr r ((s : Situation) (disks : Disks) → IsHomeUp port plan s a txn slot
          → IsStrictSlot port plan s disks a slot → IsStrictSlot port plan s disks a (Node new))
      slow_strict_as_before (Ok emitted) = tt
      slow_strict_as_before (Err e) = λ s disks home are. later s disks are (node_past (cluster_of plan) s a)

  pub slow_refused : (r : Result Emitted NodeError) → node.OfEachPast port layout n (λ name past. IsSlowAnswer layout name past.acts txn r)
      → IfErr r (λ error. (s : Situation) → IsHomeUp port plan s a txn slot → IsSlowRefused plan s txn error)
  slow_refused r refused = of r here
    where
      here : (s : Situation) → IsHomeUp port plan s a txn slot → IsSlowAnswer plan.topology (node_name plan (node_of a)) (node_past (cluster_of plan) s a).acts txn r
      here s home =
          subst (λ (l : Layout). node.OfEachPast port l n (λ name past. IsSlowAnswer l name past.acts txn r)) layout_is refused
          (node_name plan (node_of a)) (node_past (cluster_of plan) s a) (there s home).stands.stands

      at : Situation → Bool
      at s = is_answered plan.topology (node_of a) (clock_start plan.starts (node_of a)) txn (deeds_by plan.topology (node_name plan (node_of a)) (node_past (cluster_of plan) s a).acts)

      of : (q : Result Emitted NodeError) → ((s : Situation) → IsHomeUp port plan s a txn slot → IsSlowAnswer plan.topology (node_name plan (node_of a)) (node_past (cluster_of plan) s a).acts txn q)
          → IfErr q (λ error. (s : Situation) → IsHomeUp port plan s a txn slot → IsSlowRefused plan s txn error)
      of (Ok emitted) tells = tt
      of (Err OutOfMemory) tells = λ s home. tt
      of (Err Begun) tells = λ s home. (tells s home).not_begun refl
      of (Err Unknown) tells = λ s home. told port plan a txn n s (there s home) ∙ ap (λ b. slow_cause txn b (at s)) ((tells s home).unknown.0 refl)
      of (Err NoQuorum) tells = λ s home.
          let found = (tells s home).no_quorum.0 refl in
          told port plan a txn n s (there s home) ∙ ap (λ b. slow_cause txn b (at s)) found.0 ∙ ap (λ b. slow_cause txn true b) found.1
