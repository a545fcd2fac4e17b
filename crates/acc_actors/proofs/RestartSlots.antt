-- What an actor in its slot is after a restart.
use Rattle.std.proofs.Common.{◌≡◌, ℕ, ◌≤◌, true, not, List, [], ◌∷◌, None, refl, sym, ◌∙◌, subst}
use Rattle.acc_stamp.specs.declared.actors.Actor.{Actor}
use Rattle.acc_stamp.specs.Actor.{node_of}
use Rattle.acc_ports.specs.declared.disk.Disk.{Ghosts}
use Rattle.acc_ports.specs.Faults.{Rose}
use Rattle.acc_message.specs.declared.message.Message.{Message}
use Rattle.acc_message.specs.declared.entry.Emitted.{Emitted}
use Rattle.acc_message.specs.NodeRules.{Act}
use Rattle.acc_message.specs.Run.{Cluster}
use Rattle.acc_journal.specs.Journal.{keeps_group}
use Rattle.acc_payloads.specs.declared.stops.Unsent.{Unsent}
use Rattle.acc_payloads.specs.declared.stops.Restarted.{Restarted}
use Rattle.acc_payloads.specs.declared.stops.Restarted.TheVariants.{Up, Down}
use Rattle.acc_durable_node.specs.declared.actor.NodeActor.{NodeActor}
use Rattle.acc_durable_store.specs.declared.actor.StoreActor.{StoreActor}
use Rattle.acc_payloads.specs.Stops.{Past, some, IsKept, is_up, KeepsByChoice}
use Rattle.acc_durable_node.specs.Actor as node
use Rattle.acc_durable_store.specs.Actor as store
use Rattle.acc_schedule.specs.Content.{Content}
use Rattle.acc_pasts.specs.Stopped.{IsSound}
use Rattle.acc_pasts.proofs.Pasts.{went_down}
use Rattle.acc_pasts.proofs.Sound.{sound_standing}
use Rattle.acc_schedule_runs.specs.Situations.{Situation, whole, stopped_at}
use Rattle.acc_schedule_runs.specs.Moves.{kept_if, reopened}
use Rattle.acc_schedule_runs.specs.Schedules.{cluster_of}
use Rattle.acc_schedule_runs.specs.Disks.{Disks, after_restart}
use Rattle.acc_actors.specs.declared.slot.Slot.TheVariants.{Node, Store}
use Rattle.acc_actors.specs.Pasts.{node_past, store_past}
use Rattle.acc_actors.specs.Slots.{NodeStands, StoreStands, node_name, store_name}
use Rattle.acc_actors.specs.Asked.{over_disks, IsFew, AreKeptSteps, HasRestartedAt, HasRestartedStrictlyAt}
use Rattle.acc_actors.proofs.Pasts.{node_down, store_down}
use Rattle.acc_actors.proofs.Few.{rose_counted, le_on, entry_own}
use Rattle.acc_actors.proofs.RestartPasts.{all_may, node_told, store_told, same_kept, down_reopened, downs_reopened, node_restarts, store_restarts, node_some, store_some}

module _ {D : Type 0} (port : Ghosts D) (plan : Content) (s : Situation) (a : Actor) (sound : IsSound (cluster_of plan) s) where
  abbrev cluster : Cluster
  cluster = cluster_of plan

  -- ---- of a node

  module _ (n new : NodeActor D) (stands : NodeStands port plan s a n) where
    abbrev past : Past Act
    past = node_past cluster s a

    abbrev rules : Past Act → Act → Emitted
    rules = node.emits_next plan.topology (node_name plan (node_of a))

    node_keeps : (kept : List Unsent) → IsKept rules past kept → AreKeptSteps cluster s a kept
    node_keeps [] h = tt
    node_keeps (unsent ∷ others) h =
        node_told cluster a (stopped_at a s.stopped) s past.stopped true (unsent ∷ others) stands.kind (sound_standing cluster s sound)
        (all_may cluster a (stopped_at a s.stopped) s (sound.stopped a)) h

    node_up : (kept : List Unsent) → node_past cluster (reopened cluster s a (kept_if (some kept) a s)) a ≡ node.past_after (Up kept) past
    node_up kept = node_restarts cluster s a (some kept) sound

    pub node_restarted : IsFew s → (found : Restarted) → node.KeptIn plan.topology (node_name plan (node_of a)) past found
        → node.StandsFor port plan.topology (node_name plan (node_of a)) (node.past_after found past) new → node.is_down new ≡ not (is_up found)
        → (port.state (node.disk_of n)).faults ≤ (port.state (node.disk_of new)).faults → (found ≡ Down → Rose (port.state (node.disk_of n)).faults (port.state (node.disk_of new)).faults)
        → HasRestartedAt port plan s a found (Node new)
    node_restarted few (Up kept) h stood down counted cause = (
      node_keeps kept h,
      record {
        kind = stands.kind;
        stands = subst (λ (p : Past Act). node.StandsFor port plan.topology (node_name plan (node_of a)) p new) (sym (node_up kept)) stood;
        down = down ∙ sym (down_reopened cluster s a (kept_if (some kept) a s));
        counted = subst (λ d. d ≤ (port.state (node.disk_of new)).faults) (sym (downs_reopened cluster s a (kept_if (some kept) a s))) (le_on stands.counted counted);
      },
    )
    node_restarted few Down h stood down counted cause =
        record {
          kind = stands.kind;
          stands = subst (λ (p : Past Act). node.StandsFor port plan.topology (node_name plan (node_of a)) p new) (sym (node_down cluster s a sound)) stood;
          down = down ∙ sym (went_down cluster (whole s) a).down;
          counted = rose_counted a s.own (port.state (node.disk_of n)).faults (port.state (node.disk_of new)).faults few.1 stands.counted (cause refl);
        }

    pub node_restarted_strictly : (disks : Disks) (choice : ℕ) (found : Restarted)
        → node.KeptIn plan.topology (node_name plan (node_of a)) past found
        → KeepsByChoice (disks.passed a) choice past.stopped found
        × node.IsStrictAt port plan.topology (node_name plan (node_of a)) None None (node.past_after found past) new
        → HasRestartedStrictlyAt port plan (over_disks s disks) a choice found (Node new)
    node_restarted_strictly disks choice (Up kept) h told = (
      same_kept s a (some kept) (keeps_group (disks.passed a) choice) (some past.stopped) told.0 (node_some cluster s a sound),
      subst (λ (p : Past Act). node.IsStrictAt port plan.topology (node_name plan (node_of a)) (later.armed a) (later.passed a) p new) (sym (node_up kept))
          (subst (λ calls. node.IsStrictAt port plan.topology (node_name plan (node_of a)) calls (later.passed a) (node.past_after (Up kept) past) new)
          (sym (entry_own a None disks.armed))
          (subst (λ calls. node.IsStrictAt port plan.topology (node_name plan (node_of a)) None calls (node.past_after (Up kept) past) new)
          (sym (entry_own a None disks.passed)) told.1)),
    )
      where
        later : Disks
        later = after_restart a disks
    node_restarted_strictly disks choice Down h told = told.0

  -- ---- of a store

  module _ (t new : StoreActor D) (stands : StoreStands port plan s a t) where
    abbrev store_was : Past Message
    store_was = store_past cluster s a

    abbrev store_rules : Past Message → Message → Emitted
    store_rules = store.emits_next plan.topology a

    store_keeps : (kept : List Unsent) → IsKept store_rules store_was kept → AreKeptSteps cluster s a kept
    store_keeps [] h = tt
    store_keeps (unsent ∷ others) h =
        store_told cluster a (stopped_at a s.stopped) s store_was.stopped true (unsent ∷ others) stands.kind (sound_standing cluster s sound)
        (all_may cluster a (stopped_at a s.stopped) s (sound.stopped a)) h

    store_up : (kept : List Unsent) → store_past cluster (reopened cluster s a (kept_if (some kept) a s)) a ≡ store.past_after (Up kept) store_was
    store_up kept = store_restarts cluster s a (some kept) stands.kind sound

    pub store_restarted : IsFew s → (found : Restarted) → store.KeptIn plan.topology a store_was found
        → store.StandsFor port plan.topology (store_name plan a) (store.past_after found store_was) new → store.is_down new ≡ not (is_up found)
        → (port.state (store.disk_of t)).faults ≤ (port.state (store.disk_of new)).faults → (found ≡ Down → Rose (port.state (store.disk_of t)).faults (port.state (store.disk_of new)).faults)
        → HasRestartedAt port plan s a found (Store new)
    store_restarted few (Up kept) h stood down counted cause = (
      store_keeps kept h,
      record {
        kind = stands.kind;
        stands = subst (λ (p : Past Message). store.StandsFor port plan.topology (store_name plan a) p new) (sym (store_up kept)) stood;
        down = down ∙ sym (down_reopened cluster s a (kept_if (some kept) a s));
        counted = subst (λ d. d ≤ (port.state (store.disk_of new)).faults) (sym (downs_reopened cluster s a (kept_if (some kept) a s))) (le_on stands.counted counted);
      },
    )
    store_restarted few Down h stood down counted cause =
        record {
          kind = stands.kind;
          stands = subst (λ (p : Past Message). store.StandsFor port plan.topology (store_name plan a) p new) (sym (store_down cluster s a sound)) stood;
          down = down ∙ sym (went_down cluster (whole s) a).down;
          counted = rose_counted a s.own (port.state (store.disk_of t)).faults (port.state (store.disk_of new)).faults few.1 stands.counted (cause refl);
        }

    pub store_restarted_strictly : (disks : Disks) (choice : ℕ) (found : Restarted)
        → store.KeptIn plan.topology a store_was found
        → KeepsByChoice (disks.passed a) choice store_was.stopped found
        × store.IsStrictAt port plan.topology (store_name plan a) None None (store.past_after found store_was) new
        → HasRestartedStrictlyAt port plan (over_disks s disks) a choice found (Store new)
    store_restarted_strictly disks choice (Up kept) h told = (
      same_kept s a (some kept) (keeps_group (disks.passed a) choice) (some store_was.stopped) told.0 (store_some cluster s a stands.kind sound),
      subst (λ (p : Past Message). store.IsStrictAt port plan.topology (store_name plan a) (later.armed a) (later.passed a) p new) (sym (store_up kept))
          (subst (λ calls. store.IsStrictAt port plan.topology (store_name plan a) calls (later.passed a) (store.past_after (Up kept) store_was) new)
          (sym (entry_own a None disks.armed))
          (subst (λ calls. store.IsStrictAt port plan.topology (store_name plan a) None calls (store.past_after (Up kept) store_was) new)
          (sym (entry_own a None disks.passed)) told.1)),
    )
      where
        later : Disks
        later = after_restart a disks
    store_restarted_strictly disks choice Down h told = told.0
