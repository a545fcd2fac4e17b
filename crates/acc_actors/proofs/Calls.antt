-- From what the calls of actors ensure to what their slots have tried.
use Rattle.std.proofs.Common.{◌≡◌, ℕ, ◌≤◌, true, false, Option, None, Result, Ok, Err, IfOk, is_none, sym, ◌∙◌, ap, subst}
use Rattle.std.specs.Prelude.{OnErr}
use Rattle.acc_base.specs.declared.memory.OutOfMemory.{OutOfMemory}
use Rattle.acc_stamp.specs.declared.actors.Actor.{Actor}
use Rattle.acc_stamp.specs.declared.stamps.TxnId.{TxnId}
use Rattle.acc_stamp.specs.Actor.{node_of}
use Rattle.acc_topology.specs.Layout.{Layout}
use Rattle.acc_txn.specs.declared.parts.BodyParts.{BodyParts}
use Rattle.acc_ports.specs.declared.disk.Disk.{Ghosts}
use Rattle.acc_ports.specs.Faults.{Rose, CountsFaults}
use Rattle.acc_message.specs.declared.entry.Emitted.{Emitted}
use Rattle.acc_message.specs.declared.entry.Event.{Event}
use Rattle.acc_message.specs.declared.entry.Event.TheVariants.{Begin as BeginEvent, Recover as RecoverEvent}
use Rattle.acc_message.specs.NodeRules.{Act, Begins, Recovers}
use Rattle.acc_payloads.specs.Stops.{Stop, Past, after_step}
use Rattle.acc_durable_node.specs.declared.name.NodeName.{NodeName}
use Rattle.acc_durable_node.specs.Actor as node
use Rattle.acc_durable_node.specs.declared.actor.NodeActor.{NodeActor}
use Rattle.acc_schedule.specs.Content.{Content}
use Rattle.acc_schedule_runs.specs.Situations.{Situation}
use Rattle.acc_schedule_runs.specs.Moves.{is_journalled}
use Rattle.acc_schedule_runs.specs.Schedules.{cluster_of}
use Rattle.acc_payloads.specs.Appends.{fails_append, after_append, passed_in}
use Rattle.acc_schedule_runs.specs.Disks.{Disks}
use Rattle.acc_actors.specs.declared.slot.Slot.{Slot}
use Rattle.acc_actors.specs.declared.slot.Slot.TheVariants.{Node}
use Rattle.acc_actors.specs.Pasts.{node_past}
use Rattle.acc_actors.specs.Slots.{IsStrictSlot, StaysIn, node_name, faults_in}
use Rattle.acc_actors.specs.Asked.{step_by, over_disks, IsAsked, MayAsk, HasTried, HasTriedStrictly, HasAnswered}
use Rattle.acc_actors.proofs.NodeSlots.{stop_for, may_draw, is_fresh, tried, tried_strictly, begin_stop_is, recover_stop_is}
use Rattle.acc_actors.proofs.Few.{steps_up}
use Rattle.acc_actors.proofs.Refused.{node_stays}

module _ {D : Type 0} (port : Ghosts D) (plan : Content) (a : Actor) (slot : Slot D) (n : NodeActor D) (is : slot ≡ Node n)
    (layout : Layout) (layout_is : layout ≡ plan.topology) where
  there : (s : Situation) (event : Event) (act : Act) → IsAsked port plan s (step_by a event act) slot → IsAsked port plan s (step_by a event act) (Node n)
  there s event act asked = subst (λ (x : Slot D). IsAsked port plan s (step_by a event act) x) is asked

  pub may_begin : (txn : ℕ) (body : BodyParts) → MayAsk port plan (step_by a (BeginEvent txn) (Begins txn body)) slot → node.MayBegin port layout n txn
  may_begin txn body may =
      let s : Situation = may.0 in
      let asked : IsAsked port plan s (step_by a (BeginEvent txn) (Begins txn body)) (Node n) = there s (BeginEvent txn) (Begins txn body) may.1 in
      subst (λ (l : Layout). node.MayBegin port l n txn) (sym layout_is) (record {
        name = node_name plan (node_of a);
        past = node_past (cluster_of plan) s a;
        stands = asked.stands.stands;
        low = may_draw port plan s a (BeginEvent txn) (Begins txn body) n asked;
        fresh = is_fresh port plan s a txn body n asked;
      })

  pub may_recover : (txn : ℕ) (id : TxnId) (body : BodyParts) → MayAsk port plan (step_by a (RecoverEvent txn) (Recovers id body)) slot → node.MayRecover port layout n
  may_recover txn id body may =
      let s : Situation = may.0 in
      let asked : IsAsked port plan s (step_by a (RecoverEvent txn) (Recovers id body)) (Node n) = there s (RecoverEvent txn) (Recovers id body) may.1 in
      subst (λ (l : Layout). node.MayRecover port l n) (sym layout_is) (record {
        name = node_name plan (node_of a);
        past = node_past (cluster_of plan) s a;
        stands = asked.stands.stands;
        low = may_draw port plan s a (RecoverEvent txn) (Recovers id body) n asked;
      })

  pub is_up : (event : Event) (act : Act) → MayAsk port plan (step_by a event act) slot → node.is_down n ≡ false
  is_up event act may =
      let asked : IsAsked port plan may.0 (step_by a event act) (Node n) = there may.0 event act may.1 in
      asked.stands.down ∙ asked.up

  -- a journalled step, which a fault stops so
  module _ (event : Event) (act : Act) (stop : Layout → NodeName → Past Act → Stop Act) (journalled : is_journalled a event ≡ true)
      (stop_is : (s : Situation) → IsAsked port plan s (step_by a event act) (Node n)
      → stop plan.topology (node_name plan (node_of a)) (node_past (cluster_of plan) s a) ≡ stop_for port plan s a event act)
      (new : NodeActor D) where
    pub called : (r : Result (Option Emitted) OutOfMemory)
        → IfOk r (λ given. (name : NodeName) (past : Past Act) → node.StandsFor port layout name past n
        → node.Steps port layout name past (stop layout name past) new given)
        → IfOk r (λ given. node.is_down new ≡ is_none given) → (port.state (node.disk_of n)).faults ≤ (port.state (node.disk_of new)).faults
        → (r ≡ Ok None → Rose (port.state (node.disk_of n)).faults (port.state (node.disk_of new)).faults)
        → IfOk r (λ given. (s : Situation) → IsAsked port plan s (step_by a event act) slot → HasTried port plan s a event (Node new) given)
    called (Err e) ok down counted cause = tt
    called (Ok given) ok down counted cause = λ s asked.
        let here : IsAsked port plan s (step_by a event act) (Node n) = there s event act asked in
        tried port plan s a event act (stop plan.topology (node_name plan (node_of a)) (node_past (cluster_of plan) s a)) journalled (stop_is s here)
        here.sound here.up here.may n new given here
        (subst (λ (l : Layout). (name : NodeName) (past : Past Act) → node.StandsFor port l name past n
        → node.Steps port l name past (stop l name past) new given) layout_is ok
        (node_name plan (node_of a)) (node_past (cluster_of plan) s a) here.stands.stands)
        down counted (λ none. cause (ap Ok none))

    pub called_strictly : (r : Result (Option Emitted) OutOfMemory)
        → ((name : NodeName) (armed passed : Option ℕ) (past : Past Act) → node.StandsFor port layout name past n
        → node.IsStrictAt port layout name armed passed past n
        → IfOk r (λ given. (is_none given ≡ fails_append armed)
        × node.IsStrictAt port layout name (after_append armed) (passed_in armed) (after_step given past (stop layout name past)) new))
        → IfOk r (λ given. (s : Situation) (disks : Disks) → IsAsked port plan s (step_by a event act) slot
        → IsStrictSlot port plan s disks a slot → HasTriedStrictly port plan (over_disks s disks) a event (Node new) given)
    called_strictly (Err e) ok = tt
    called_strictly (Ok given) ok = λ s disks asked are.
        let here : IsAsked port plan s (step_by a event act) (Node n) = there s event act asked in
        tried_strictly port plan s a event act (stop plan.topology (node_name plan (node_of a)) (node_past (cluster_of plan) s a)) journalled (stop_is s here)
        here.sound here.up here.may disks new given
        (subst (λ (l : Layout). (name : NodeName) (armed passed : Option ℕ) (past : Past Act) → node.StandsFor port l name past n
        → node.IsStrictAt port l name armed passed past n
        → (is_none given ≡ fails_append armed)
        × node.IsStrictAt port l name (after_append armed) (passed_in armed) (after_step given past (stop l name past)) new) layout_is ok
        (node_name plan (node_of a)) (disks.armed a) (disks.passed a) (node_past (cluster_of plan) s a) here.stands.stands
        (subst (λ (x : Slot D). IsStrictSlot port plan s disks a x) is are))

    -- where memory was refused
    refused : (r : Result (Option Emitted) OutOfMemory) → node.is_down n ≡ false → OnErr r (node.is_down new ≡ false → node.IsAsBefore port layout n new × (node.disk_of new ≡ node.disk_of n))
        → OnErr r (node.is_down new ≡ false → StaysIn port plan a slot (Node new))
    refused (Ok given) up left = tt
    refused (Err e) up left = λ still_up.
        let as_before = left still_up in
        subst (λ (x : Slot D). StaysIn port plan a x (Node new)) (sym is) (node_stays port plan a layout layout_is n new up still_up as_before.0 as_before.1)

    -- what its slot answers
    pub answers : (r : Result (Option Emitted) OutOfMemory) → MayAsk port plan (step_by a event act) slot → node.HasStepped port layout n new (stop layout) r → HasAnswered port plan (step_by a event act) slot (Node new) r
    answers r may stepped =
        record {
          ok = called r stepped.ok stepped.down (steps_up r _ _ stepped.faults) stepped.faults.cause;
          strict = called_strictly r stepped.strict;
          refused = refused r (is_up event act may) stepped.refused;
          faults = subst (λ (x : Slot D). CountsFaults (r ≡ Ok None) (faults_in port x) (port.state (node.disk_of new)).faults) (sym is) stepped.faults;
        }

  pub begin_is : (txn : ℕ) (body : BodyParts) (s : Situation) → IsAsked port plan s (step_by a (BeginEvent txn) (Begins txn body)) (Node n)
      → node.begin_stop plan.topology txn body (node_name plan (node_of a)) (node_past (cluster_of plan) s a) ≡ stop_for port plan s a (BeginEvent txn) (Begins txn body)
  begin_is txn body s asked = begin_stop_is port plan s a txn body asked.sound asked.stands.kind asked.may.act_is

  pub recover_is : (txn : ℕ) (id : TxnId) (body : BodyParts) (s : Situation) → IsAsked port plan s (step_by a (RecoverEvent txn) (Recovers id body)) (Node n)
      → node.recover_stop plan.topology txn id body (node_name plan (node_of a)) (node_past (cluster_of plan) s a) ≡ stop_for port plan s a (RecoverEvent txn) (Recovers id body)
  recover_is txn id body s asked = recover_stop_is port plan s a txn id body asked.sound asked.stands.kind asked.may.act_is
