-- Actors that are opened with low heights are safe.
use Rattle.std.proofs.Common.{◌≡◌, ℕ, ◌+◌, ◌≤◌, Bool, true, false, List, [], refl, sym, subst, arith}
use Rattle.acc_stamp.specs.declared.actors.Actor.{Actor}
use Rattle.acc_ports.specs.declared.disk.Disk.{Ghosts}
use Rattle.acc_message.specs.declared.message.Message.{Message}
use Rattle.acc_message.specs.NodeRules.{Act, clock_of}
use Rattle.acc_message.specs.StoreRules.{replay}
use Rattle.acc_message.specs.VoteRule.{greatest_h}
use Rattle.acc_payloads.specs.Items.{without_marks}
use Rattle.acc_payloads.specs.Stops.{Past, kept_if}
use Rattle.acc_run_laws.specs.Heights.{IsLowClock}
use Rattle.acc_schedule.specs.Content.{Content}
use Rattle.acc_durable_node.specs.Names.{deeds_by}
use Rattle.acc_durable_node.specs.declared.node.DurableNode.{DurableNode}
use Rattle.acc_durable_node.specs.declared.actor.NodeActor.{NodeActor}
use Rattle.acc_durable_node.specs.Node as durable_node
use Rattle.acc_durable_node.specs.Actor as node
use Rattle.acc_durable_store.specs.declared.store.DurableStore.{DurableStore}
use Rattle.acc_durable_store.specs.declared.actor.StoreActor.{StoreActor}
use Rattle.acc_durable_store.specs.Store as durable_store
use Rattle.acc_durable_store.specs.Actor as store
use Rattle.std.specs.List.{AllByRecursion}
use Rattle.acc_actors.specs.declared.slot.Slot.{Slot}
use Rattle.acc_actors.specs.declared.slot.Slot.TheVariants.{Empty, Node, Store}
use Rattle.acc_actors.specs.Slots.{IsTaken}
use Rattle.acc_cluster.specs.Opened.{AreFilled}
use Rattle.acc_cluster.specs.Safe.{most_opened, NodeIsSafe, StoreIsSafe, IsSafe, HasLowPast, TookLow}
use Rattle.acc_cluster.specs.Stands.{slot_at}

module _ {D : Type 0} (port : Ghosts D) (plan : Content) where
  pub node_opens_safe : (n : DurableNode D) (actor : NodeActor D)
      → ((acts : List Act) → durable_node.StandsFor plan.topology n acts
      → node.StandsFor port plan.topology n.name (record { acts = acts; held = without_marks n.journal.payloads; stopped = [] }) actor)
      → HasLowPast plan n → NodeIsSafe port plan most_opened actor
  node_opens_safe n actor stands did =
      record { name = n.name; past = past; stands = stands did.acts did.stands; low = low }
    where
      past : Past Act
      past = record { acts = did.acts; held = without_marks n.journal.payloads; stopped = [] }

      low : (keeps : Bool) → IsLowClock most_opened (clock_of n.name.number n.name.start (deeds_by plan.topology n.name (kept_if keeps past).acts))
      low true = did.low
      low false = did.low

  pub store_opens_safe : (t : DurableStore D) (own : Actor) (version : ℕ) (actor : StoreActor D) → durable_store.actor_in t ≡ own → version ≡ plan.version
      → ((messages : List Message) → durable_store.StandsFor plan.topology t messages
      → store.StandsFor port plan.topology (record { actor = own; version = version }) (record { acts = messages; held = without_marks t.journal.payloads; stopped = [] }) actor)
      → TookLow plan t → StoreIsSafe port plan most_opened own actor
  store_opens_safe t own version actor owned versioned stands took =
      record {
        past = past;
        stands =
            subst (λ (v : ℕ). store.StandsFor port plan.topology (record { actor = own; version = v }) past actor) versioned (stands took.messages took.stands);
        low = low;
      }
    where
      past : Past Message
      past = record { acts = took.messages; held = without_marks t.journal.payloads; stopped = [] }

      here : greatest_h own (replay plan.topology own took.messages) ≤ most_opened
      here = subst (λ (a : Actor). greatest_h a (replay plan.topology a took.messages) ≤ most_opened) owned took.low

      low : (keeps : Bool) → greatest_h own (replay plan.topology own (kept_if keeps past).acts) ≤ most_opened
      low true = here
      low false = here

  -- all slots are safe, also those in which nobody stands
  pub all_safe : (nodes : List (DurableNode D)) (stores : List (DurableStore D)) (slots : List (Slot D)) → AreFilled port plan nodes stores slots
      → AllByRecursion (HasLowPast plan) nodes → AllByRecursion (TookLow plan) stores → (a : Actor) → IsSafe port plan (most_opened + 0) a (slot_at slots a)
  all_safe nodes stores slots filled did took a =
      let same : most_opened ≡ most_opened + 0 = omega arith in
      subst (λ (most : ℕ). IsSafe port plan most a (slot_at slots a)) same (by (slot_at slots a) refl)
    where
      by : (slot : Slot D) → slot_at slots a ≡ slot → IsSafe port plan most_opened a (slot_at slots a)
      by Empty is = subst (λ (x : Slot D). IsSafe port plan most_opened a x) (sym is) tt
      by (Node n) is = filled.safe did took a (subst IsTaken (sym is) tt)
      by (Store t) is = filled.safe did took a (subst IsTaken (sym is) tt)
