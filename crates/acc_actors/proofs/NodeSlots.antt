-- What a node in its slot is after a step.
use Rattle.std.proofs.Common.{◌≡◌, ℕ, ◌≤◌, Bool, true, false, not, ◌&&◌, List, [], ◌∷◌, ◌++◌, Option, None, Some, IfSome, is_none, refl, sym, ◌∙◌, ap, subst}
use Rattle.std.proofs.lemmas.List.{append-nil}
use Rattle.acc_stamp.specs.declared.actors.Actor.{Actor}
use Rattle.acc_stamp.specs.Actor.{node_of}
use Rattle.acc_ports.specs.Faults.{Rose}
use Rattle.acc_txn.specs.declared.parts.BodyParts.{BodyParts}
use Rattle.acc_stamp.specs.declared.stamps.TxnId.{TxnId}
use Rattle.acc_ports.specs.declared.disk.Disk.{Ghosts}
use Rattle.acc_message.specs.declared.entry.Emitted.{Emitted}
use Rattle.acc_message.specs.declared.entry.Event.{Event}
use Rattle.acc_message.specs.declared.entry.Event.TheVariants.{Begin as BeginEvent, Recover as RecoverEvent}
use Rattle.acc_message.specs.NodeRules.{Act, Begins, Recovers, Deed, clock_of, begun_id}
use Rattle.acc_message.specs.Run.{Cluster, act_of, clock_start, deeds_of, emits, is_node, is_down}
use Rattle.acc_run_laws.specs.Asks.{emits_if}
use Rattle.acc_payloads.specs.declared.draw.Purpose.TheVariants.{Begin, Recover}
use Rattle.acc_payloads.specs.Acts.{MayDraw, next_draw_of}
use Rattle.acc_payloads.specs.Spelling.{draw_bytes}
use Rattle.acc_payloads.specs.Items.{payload_by, downs_in}
use Rattle.acc_run_laws.specs.Calls.{NodeMeets}
use Rattle.acc_run_laws.proofs.Sendable.{node_meets}
use Rattle.acc_payloads.specs.Stops.{Stop, Past, with_step, with_stops, with_act, after_step}
use Rattle.acc_durable_node.specs.Names.{deeds_by, id_begun}
use Rattle.acc_durable_node.specs.Actor as node
use Rattle.acc_durable_node.specs.declared.actor.NodeActor.{NodeActor}
use Rattle.acc_schedule.specs.Content.{Content}
use Rattle.acc_pasts.specs.Entries.{payload_for, MayTake}
use Rattle.acc_pasts.specs.Stopped.{IsSound}
use Rattle.acc_pasts.proofs.Pasts.{did_more, went_down}
use Rattle.acc_pasts.proofs.Payloads.{begin_payload, recover_payload}
use Rattle.acc_pasts.proofs.Replayed.{node_replayed, node_emits_next}
use Rattle.acc_pasts.proofs.Sound.{sound_standing}
use Rattle.acc_pasts.proofs.Situations.{journalled_in as journalled_raised}
use Rattle.acc_pasts.proofs.SlowingFacts.{not_begun}
use Rattle.acc_schedule_runs.specs.Situations.{Situation, whole}
use Rattle.acc_schedule_runs.specs.Moves.{event_in, entered, is_journalled, tried_if}
use Rattle.acc_schedule_runs.specs.Schedules.{cluster_of}
use Rattle.acc_payloads.specs.Appends.{fails_append, after_append, passed_in}
use Rattle.acc_schedule_runs.specs.Disks.{Disks}
use Rattle.acc_schedule_runs.specs.Disks as strict_disks
use Rattle.acc_actors.specs.Pasts.{first_of, stops_in, node_past}
use Rattle.acc_actors.specs.Slots.{SlotStands, IsStrictSlot, node_name}
use Rattle.acc_actors.specs.Asked.{step_by, over_disks, IsAsked, IsEmitted, HasTried, HasTriedStrictly}
use Rattle.acc_actors.specs.declared.slot.Slot.TheVariants.{Node}
use Rattle.acc_actors.proofs.Pasts.{past_of, none_stopped, node_entered, node_stopped, one_payload, payload_is}
use Rattle.acc_actors.proofs.Few.{few_whole, rose_counted, le_on, armed_after, passed_after}

module _ {D : Type 0} (port : Ghosts D) (plan : Content) (s : Situation) (a : Actor) where
  abbrev cluster : Cluster
  cluster = cluster_of plan

  abbrev start : ℕ
  start = clock_start plan.starts (node_of a)

  abbrev past : Past Act
  past = node_past cluster s a

  -- the step as a fault would stop it
  abbrev pub stop_for : Event → Act → Stop Act
  stop_for event act = record { event = event; act = act; payload = first_of (payload_for cluster (whole s) a (event_in s event)) }

  done_is : IsSound cluster s → is_node a ≡ true → deeds_of cluster a (whole s) ≡ deeds_by plan.topology (node_name plan (node_of a)) past.acts
  done_is sound kind = node_replayed cluster (whole s) a (sound_standing cluster s sound) kind

  -- ---- what calls ask

  pub may_draw : (event : Event) (act : Act) (n : NodeActor D) → IsAsked port plan s (step_by a event act) (Node n) → MayDraw (node_of a) start (deeds_by plan.topology (node_name plan (node_of a)) past.acts)
  may_draw event act n asked =
      let meets : NodeMeets cluster (whole s) a = node_meets cluster (whole s) a (sound_standing cluster s asked.sound) (few_whole s asked.few) asked.stands.kind in
      record { drawn = meets.drawn; seen = meets.seen }

  not_true : (b : Bool) → not b ≡ true → b ≡ false
  not_true true h = sym h
  not_true false h = refl

  pub is_fresh : (txn : ℕ) (body : BodyParts) (n : NodeActor D) → IsAsked port plan s (step_by a (BeginEvent txn) (Begins txn body)) (Node n)
      → id_begun plan.topology (node_name plan (node_of a)) txn past.acts ≡ None
  is_fresh txn body n asked =
      subst (λ (deeds : List Deed). begun_id (node_of a) start txn deeds ≡ None) (done_is asked.sound asked.stands.kind)
      (not_begun cluster (whole s) a (node_of a) start txn (not_true _ asked.may.place.1))

  -- ---- the step

  -- what the actor gives is what its entry emits
  emitted_is : (event : Event) (act : Act) (emitted : Emitted) → IsSound cluster s → is_node a ≡ true → MayTake cluster (whole s) a (event_in s event) act
      → emitted ≡ node.emits_next plan.topology (node_name plan (node_of a)) past act → emitted ≡ emits_if cluster (whole s) a (act_of cluster (whole s) (event_in s event))
  emitted_is event act emitted sound kind may is =
      is ∙ sym (node_emits_next cluster (whole s) a act (sound_standing cluster s sound) kind) ∙ ap (emits_if cluster (whole s) a) (sym may.act_is)

  module _ (event : Event) (act : Act) (stop : Stop Act) (journalled : is_journalled a event ≡ true) (stop_is : stop ≡ stop_for event act)
      (sound : IsSound cluster s) (up : is_down a (whole s) ≡ false) (may : MayTake cluster (whole s) a (event_in s event) act) where
    past_tried : (given : Option Emitted) → node_past cluster (tried_if (is_none given) cluster s a event) a ≡ after_step given past stop
    past_tried None = node_stopped cluster s a event act may sound ∙ ap (λ one. with_stops past (one ∷ [])) (sym stop_is)
    past_tried (Some emitted) =
        node_entered cluster s a event act may sound up
        ∙ ap (λ ps. past_of (act ∷ past.acts) (past.held ++ ps) []) (one_payload cluster (whole s) a (event_in s event) act journalled_in may)
        ∙ ap (with_step past) (sym stop_is)
      where
        journalled_in : is_journalled a (event_in s event) ≡ true
        journalled_in = journalled_raised s a event ∙ journalled

    down_tried : (given : Option Emitted) → is_none given ≡ is_down a (whole (tried_if (is_none given) cluster s a event))
    down_tried None = sym (went_down cluster (whole s) a).down
    down_tried (Some emitted) = sym (did_more cluster (whole s) a (event_in s event) act false may).down

    pub tried : (n new : NodeActor D) (given : Option Emitted) → IsAsked port plan s (step_by a event act) (Node n)
        → node.Steps port plan.topology (node_name plan (node_of a)) past stop new given → node.is_down new ≡ is_none given
        → (port.state (node.disk_of n)).faults ≤ (port.state (node.disk_of new)).faults → (given ≡ None → Rose (port.state (node.disk_of n)).faults (port.state (node.disk_of new)).faults)
        → HasTried port plan s a event (Node new) given
    tried n new given asked steps down counted cause =
        record {
          emitted = by given steps.emits;
          stands = record {
            kind = asked.stands.kind;
            stands = subst (λ (p : Past Act). node.StandsFor port plan.topology (node_name plan (node_of a)) p new) (sym (past_tried given)) steps.stands;
            down = down ∙ down_tried given;
            counted = count given cause;
          };
        }
      where
        by : (given : Option Emitted) → IfSome given (λ emitted. emitted ≡ node.emits_next plan.topology (node_name plan (node_of a)) past stop.act)
            → IsEmitted cluster s a event given
        by None is = journalled
        by (Some emitted) is =
            emitted_is event act emitted sound asked.stands.kind may (is ∙ ap (node.emits_next plan.topology (node_name plan (node_of a)) past) (ap (λ (x : Stop Act). x.act) stop_is))

        count : (given : Option Emitted) → (given ≡ None → Rose (port.state (node.disk_of n)).faults (port.state (node.disk_of new)).faults)
            → downs_in a (tried_if (is_none given) cluster s a event).own ≤ (port.state (node.disk_of new)).faults
        count None cause = rose_counted a s.own (port.state (node.disk_of n)).faults (port.state (node.disk_of new)).faults asked.few.1 asked.stands.counted (cause refl)
        count (Some emitted) cause = le_on asked.stands.counted counted

    pub tried_strictly : (disks : Disks) (new : NodeActor D) (given : Option Emitted)
        → (is_none given ≡ fails_append (disks.armed a))
        × node.IsStrictAt port plan.topology (node_name plan (node_of a)) (after_append (disks.armed a)) (passed_in (disks.armed a)) (after_step given past stop) new
        → HasTriedStrictly port plan (over_disks s disks) a event (Node new) given
    tried_strictly disks new given h =
        record {
          fails = h.0 ∙ ap (λ b. b && fails_append (disks.armed a)) (sym journalled);
          strictly =
              subst (λ (p : Past Act). node.IsStrictAt port plan.topology (node_name plan (node_of a)) (later.armed a) (later.passed a) p new) (sym (past_tried given))
              (subst (λ calls. node.IsStrictAt port plan.topology (node_name plan (node_of a)) calls (later.passed a) (after_step given past stop) new)
              (sym (armed_after (is_journalled a event) a disks journalled))
              (subst (λ calls. node.IsStrictAt port plan.topology (node_name plan (node_of a)) (after_append (disks.armed a)) calls (after_step given past stop) new)
              (sym (passed_after (is_journalled a event) a disks journalled)) h.1));
        }
      where
        later : Disks
        later = strict_disks.after_step (is_journalled a event) a disks

  -- ---- begins and recovers

  pub begin_stop_is : (txn : ℕ) (body : BodyParts) → IsSound cluster s → is_node a ≡ true → act_of cluster (whole s) (BeginEvent txn) ≡ Some (Begins txn body)
      → node.begin_stop plan.topology txn body (node_name plan (node_of a)) past ≡ stop_for (BeginEvent txn) (Begins txn body)
  begin_stop_is txn body sound kind is =
      ap (λ p. record { event = BeginEvent txn; act = Begins txn body; payload = p })
      (ap (λ (deeds : List Deed). draw_bytes (next_draw_of (clock_of (node_of a) start deeds) Begin txn)) (sym (done_is sound kind))
      ∙ sym (ap first_of (payload_is cluster (whole s) a (BeginEvent txn) (Begins txn body) is ∙ begin_payload cluster (whole s) a txn txn body kind)))

  pub recover_stop_is : (txn : ℕ) (id : TxnId) (body : BodyParts) → IsSound cluster s → is_node a ≡ true → act_of cluster (whole s) (RecoverEvent txn) ≡ Some (Recovers id body)
      → node.recover_stop plan.topology txn id body (node_name plan (node_of a)) past ≡ stop_for (RecoverEvent txn) (Recovers id body)
  recover_stop_is txn id body sound kind is =
      ap (λ p. record { event = RecoverEvent txn; act = Recovers id body; payload = p })
      (ap (λ (deeds : List Deed). draw_bytes (next_draw_of (clock_of (node_of a) start deeds) Recover txn)) (sym (done_is sound kind))
      ∙ sym (ap first_of (payload_is cluster (whole s) a (RecoverEvent txn) (Recovers id body) is ∙ recover_payload cluster (whole s) a txn id body kind)))

  -- ---- what isn't journalled

  module _ (event : Event) (act : Act) (free : is_journalled a event ≡ false) (none : payload_by (whole s) a (event_in s event) (emits cluster (whole s) a act).notes ≡ [])
      (sound : IsSound cluster s) (up : is_down a (whole s) ≡ false) (may : MayTake cluster (whole s) a (event_in s event) act) where
    past_took : node_past cluster (entered cluster s a event false) a ≡ with_act act past
    past_took =
        node_entered cluster s a event act may sound up
        ∙ ap (λ ps. past_of (act ∷ past.acts) (past.held ++ ps) []) none
        ∙ ap (λ ps. past_of (act ∷ past.acts) ps []) (append-nil past.held)
        ∙ ap (past_of (act ∷ past.acts) past.held) (sym (ap (λ events. stops_in cluster s a events true) (none_stopped cluster s a sound up)))

    pub took : (n new : NodeActor D) (emitted : Emitted) → is_node a ≡ true → SlotStands port plan s a (Node n)
        → node.Takes port plan.topology (node_name plan (node_of a)) past act new emitted → node.is_down new ≡ false → node.disk_of new ≡ node.disk_of n
        → HasTried port plan s a event (Node new) (Some emitted)
    took n new emitted kind stands takes down disk =
        record {
          emitted = emitted_is event act emitted sound kind may takes.emits;
          stands = record {
            kind = kind;
            stands = subst (λ (p : Past Act). node.StandsFor port plan.topology (node_name plan (node_of a)) p new) (sym past_took) takes.stands;
            down = down ∙ sym (did_more cluster (whole s) a (event_in s event) act false may).down;
            counted = subst (λ d. downs_in a s.own ≤ (port.state d).faults) (sym disk) stands.counted;
          };
        }

    pub took_strictly : (disks : Disks) (new : NodeActor D) (emitted : Emitted)
        → ((other : Past Act) → node.IsStrictAt port plan.topology (node_name plan (node_of a)) (disks.armed a) (disks.passed a) other new)
        → HasTriedStrictly port plan (over_disks s disks) a event (Node new) (Some emitted)
    took_strictly disks new emitted h =
        record {
          fails = ap (λ b. b && fails_append (disks.armed a)) (sym free);
          strictly =
              subst (λ b. IsStrictSlot port plan (entered cluster s a event false) (strict_disks.after_step b a disks) a (Node new)) (sym free)
              (h (node_past cluster (entered cluster s a event false) a));
        }
