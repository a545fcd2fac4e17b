-- What a store in its slot is after it took a message.
use Rattle.std.proofs.Common.{◌≡◌, ℕ, ◌+◌, ◌≤◌, true, false, not, ◌&&◌, [], ◌∷◌, ◌++◌, Option, None, Some, IfSome, is_none, length, refl, sym, ◌∙◌, ap, subst}
use Rattle.acc_stamp.specs.declared.actors.Actor.{Actor}
use Rattle.acc_ports.specs.declared.disk.Disk.{Ghosts}
use Rattle.acc_ports.specs.Faults.{Rose}
use Rattle.acc_message.specs.declared.message.Message.{Message}
use Rattle.acc_message.specs.declared.entry.Emitted.{Emitted}
use Rattle.acc_message.specs.declared.entry.Event.{Event}
use Rattle.acc_message.specs.declared.entry.Event.TheVariants.{Message as MessageEvent}
use Rattle.acc_message.specs.Items.{sent_of, message_at}
use Rattle.acc_message.specs.NodeRules.{Takes}
use Rattle.acc_message.specs.Run.{Cluster, emits, is_node, is_down}
use Rattle.acc_run_laws.specs.Asks.{emits_if}
use Rattle.acc_payloads.specs.Items.{downs_in}
use Rattle.acc_payloads.specs.Stops.{Stop, Past, with_step, with_stops, after_step}
use Rattle.acc_durable_store.specs.Actor as store
use Rattle.acc_durable_store.specs.declared.actor.StoreActor.{StoreActor}
use Rattle.acc_schedule.specs.Content.{Content}
use Rattle.acc_pasts.specs.Entries.{payload_for, MayTake}
use Rattle.acc_pasts.specs.Stopped.{IsSound}
use Rattle.acc_pasts.proofs.Pasts.{did_more, went_down}
use Rattle.acc_pasts.proofs.Payloads.{store_payload}
use Rattle.acc_pasts.proofs.Replayed.{store_emits_next}
use Rattle.acc_pasts.proofs.Situations.{journalled_in as journalled_raised}
use Rattle.acc_pasts.proofs.Sound.{sound_standing}
use Rattle.acc_schedule_runs.specs.Situations.{Situation, whole}
use Rattle.acc_schedule_runs.specs.Moves.{event_in, is_journalled, tried_if}
use Rattle.acc_schedule_runs.specs.Schedules.{cluster_of}
use Rattle.acc_payloads.specs.Appends.{fails_append, after_append, passed_in}
use Rattle.acc_schedule_runs.specs.Disks.{Disks}
use Rattle.acc_schedule_runs.specs.Disks as strict_disks
use Rattle.acc_actors.specs.Pasts.{first_of, store_past}
use Rattle.acc_actors.specs.Slots.{store_name}
use Rattle.acc_actors.specs.Asked.{step_by, over_disks, IsAsked, IsEmitted, HasTried, HasTriedStrictly}
use Rattle.acc_actors.specs.declared.slot.Slot.TheVariants.{Store}
use Rattle.acc_actors.proofs.Pasts.{past_of, store_entered, store_stopped, one_payload, payload_is}
use Rattle.acc_actors.proofs.Few.{rose_counted, le_on, armed_after, passed_after}

module _ {D : Type 0} (port : Ghosts D) (plan : Content) (s : Situation) (a : Actor) (number : ℕ) (m : Message)
    (kind : is_node a ≡ false) (sound : IsSound (cluster_of plan) s) (up : is_down a (whole s) ≡ false)
    (may : MayTake (cluster_of plan) (whole s) a (event_in s (MessageEvent number)) (Takes m))
    (found : message_at (whole s) (length (sent_of s.earlier) + number) ≡ Some m) where
  abbrev cluster : Cluster
  cluster = cluster_of plan

  abbrev past : Past Message
  past = store_past cluster s a

  abbrev event : Event
  event = MessageEvent number

  abbrev stop_for : Stop Message
  stop_for = record { event = event; act = m; payload = first_of (payload_for cluster (whole s) a (event_in s event)) }

  journalled : is_journalled a event ≡ true
  journalled = ap not kind

  stop_is : store.message_stop number m ≡ stop_for
  stop_is =
      ap (λ p. record { event = event; act = m; payload = p })
      (sym (ap first_of (payload_is cluster (whole s) a (event_in s event) (Takes m) may.act_is ∙ store_payload (whole s) a (length (sent_of s.earlier) + number) m (emits cluster (whole s) a (Takes m)).notes kind found)))

  past_tried : (given : Option Emitted) → store_past cluster (tried_if (is_none given) cluster s a event) a ≡ after_step given past (store.message_stop number m)
  past_tried None = store_stopped cluster s a event m may sound ∙ ap (λ stop. with_stops past (stop ∷ [])) (sym stop_is)
  past_tried (Some emitted) =
      store_entered cluster s a event m may sound up
      ∙ ap (λ ps. past_of (m ∷ past.acts) (past.held ++ ps) []) (one_payload cluster (whole s) a (event_in s event) (Takes m) (journalled_raised s a event ∙ journalled) may)
      ∙ ap (with_step past) (sym stop_is)

  down_tried : (given : Option Emitted) → is_none given ≡ is_down a (whole (tried_if (is_none given) cluster s a event))
  down_tried None = sym (went_down cluster (whole s) a).down
  down_tried (Some emitted) = sym (did_more cluster (whole s) a (event_in s event) (Takes m) false may).down

  pub store_tried : (t new : StoreActor D) (given : Option Emitted) → IsAsked port plan s (step_by a event (Takes m)) (Store t)
      → store.Steps port plan.topology (store_name plan a) past (store.message_stop number m) new given → store.is_down new ≡ is_none given
      → (port.state (store.disk_of t)).faults ≤ (port.state (store.disk_of new)).faults → (given ≡ None → Rose (port.state (store.disk_of t)).faults (port.state (store.disk_of new)).faults)
      → HasTried port plan s a event (Store new) given
  store_tried t new given asked steps down counted cause =
      record {
        emitted = by given steps.emits;
        stands = record {
          kind = kind;
          stands = subst (λ (p : Past Message). store.StandsFor port plan.topology (store_name plan a) p new) (sym (past_tried given)) steps.stands;
          down = down ∙ down_tried given;
          counted = count given cause;
        };
      }
    where
      by : (given : Option Emitted) → IfSome given (λ emitted. emitted ≡ store.emits_next plan.topology a past m) → IsEmitted cluster s a event given
      by None is = journalled
      by (Some emitted) is =
          is ∙ sym (store_emits_next cluster (whole s) a m (sound_standing cluster s sound) kind) ∙ ap (emits_if cluster (whole s) a) (sym may.act_is)

      count : (given : Option Emitted) → (given ≡ None → Rose (port.state (store.disk_of t)).faults (port.state (store.disk_of new)).faults)
          → downs_in a (tried_if (is_none given) cluster s a event).own ≤ (port.state (store.disk_of new)).faults
      count None cause = rose_counted a s.own (port.state (store.disk_of t)).faults (port.state (store.disk_of new)).faults asked.few.1 asked.stands.counted (cause refl)
      count (Some emitted) cause = le_on asked.stands.counted counted

  pub store_tried_strictly : (disks : Disks) (new : StoreActor D) (given : Option Emitted)
      → (is_none given ≡ fails_append (disks.armed a))
      × store.IsStrictAt port plan.topology (store_name plan a) (after_append (disks.armed a)) (passed_in (disks.armed a)) (after_step given past (store.message_stop number m)) new
      → HasTriedStrictly port plan (over_disks s disks) a event (Store new) given
  store_tried_strictly disks new given h =
      record {
        fails = h.0 ∙ ap (λ b. b && fails_append (disks.armed a)) (sym journalled);
        strictly =
            subst (λ (p : Past Message). store.IsStrictAt port plan.topology (store_name plan a) (later.armed a) (later.passed a) p new) (sym (past_tried given))
            (subst (λ calls. store.IsStrictAt port plan.topology (store_name plan a) calls (later.passed a) (after_step given past (store.message_stop number m)) new)
            (sym (armed_after (is_journalled a event) a disks journalled))
            (subst (λ calls. store.IsStrictAt port plan.topology (store_name plan a) (after_append (disks.armed a)) calls (after_step given past (store.message_stop number m)) new)
            (sym (passed_after (is_journalled a event) a disks journalled)) h.1));
      }
    where
      later : Disks
      later = strict_disks.after_step (is_journalled a event) a disks
