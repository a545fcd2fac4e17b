-- An actor as it was opened stands in its slot for its part in the earlier run.
use Rattle.std.proofs.Common.{◌≡◌, ℕ, false, List, [], sym, ap, ◌∙◌, subst, arith}
use Rattle.acc_stamp.specs.declared.actors.Actor.{Actor}
use Rattle.acc_stamp.specs.Actor.{actor_of}
use Rattle.acc_ports.specs.declared.disk.Disk.{Ghosts}
use Rattle.acc_message.specs.declared.message.Message.{Message}
use Rattle.acc_message.specs.declared.item.Item.{Item}
use Rattle.acc_message.specs.NodeRules.{Act}
use Rattle.acc_message.specs.Run.{deeds_of, taken_of, is_node, is_down}
use Rattle.acc_actor_laws.specs.TakenAlone.{messages_taken}
use Rattle.acc_safety.specs.RunLaws.{acts_done}
use Rattle.acc_safety.proofs.DrawFacts.{node_is, is_node-node}
use Rattle.acc_payloads.specs.Items.{payloads_in, without_marks}
use Rattle.acc_durable_node.specs.Actor as node
use Rattle.acc_durable_store.specs.Actor as store
use Rattle.acc_durable_node.specs.declared.actor.NodeActor.{NodeActor}
use Rattle.acc_durable_store.specs.declared.actor.StoreActor.{StoreActor}
use Rattle.acc_durable_node.specs.declared.name.NodeName.{NodeName}
use Rattle.acc_durable_node.specs.declared.node.DurableNode.{DurableNode}
use Rattle.acc_durable_store.specs.declared.name.StoreName.{StoreName}
use Rattle.acc_durable_store.specs.declared.store.DurableStore.{DurableStore}
use Rattle.acc_durable_node.specs.Node as durable_node
use Rattle.acc_durable_store.specs.Store as durable_store
use Rattle.acc_schedule.specs.Content.{Content}
use Rattle.acc_schedule_runs.specs.Situations.{opened}
use Rattle.acc_schedule_runs.specs.Schedules.{cluster_of}
use Rattle.acc_actors.specs.Pasts.{node_past, store_past}
use Rattle.acc_actors.specs.Slots.{node_name, store_name, NodeStands, StoreStands}
use Rattle.acc_actors.specs.Opened.{HasDone, HasTaken}

-- by the number and the actor
record DidAt {D : Type 0} (plan : Content) (earlier : List Item) (n : DurableNode D) (number : ℕ) : Type 0 where
  stands : durable_node.StandsFor plan.topology n (acts_done (deeds_of (cluster_of plan) (actor_of number 0) earlier))
  held : without_marks n.journal.payloads ≡ payloads_in (actor_of number 0) earlier

record TookAt {D : Type 0} (plan : Content) (earlier : List Item) (t : DurableStore D) (a : Actor) : Type 0 where
  stands : durable_store.StandsFor plan.topology t (messages_taken (taken_of (cluster_of plan) a earlier))
  held : without_marks t.journal.payloads ≡ payloads_in a earlier

module _ {D : Type 0} (port : Ghosts D) (plan : Content) where
  pub node_opens : (number : ℕ) (n : DurableNode D) (actor : NodeActor D) → n.name ≡ node_name plan number
      → ((acts : List Act) → durable_node.StandsFor plan.topology n acts
      → node.StandsFor port plan.topology n.name (record { acts = acts; held = without_marks n.journal.payloads; stopped = [] }) actor)
      → node.is_down actor ≡ false → (earlier : List Item) → ((b : Actor) → is_down b earlier ≡ false) → HasDone plan earlier n
      → NodeStands port plan (opened earlier) (actor_of number 0) actor
  node_opens number n actor named stands up earlier all_up did =
      record {
        kind = is_node-node number;
        stands =
            subst (λ (m : ℕ). node.StandsFor port plan.topology (node_name plan m) (node_past (cluster_of plan) (opened earlier) (actor_of number 0)) actor) (sym (node_is number))
            (subst (λ (x : NodeName). node.StandsFor port plan.topology x (node_past (cluster_of plan) (opened earlier) (actor_of number 0)) actor) named
            (subst (λ (held : List (List ℕ)). node.StandsFor port plan.topology n.name (record { acts = acts_done (deeds_of (cluster_of plan) (actor_of number 0) earlier); held = held; stopped = [] }) actor)
            here.held
            (stands (acts_done (deeds_of (cluster_of plan) (actor_of number 0) earlier)) here.stands)));
        down = up ∙ sym (all_up (actor_of number 0));
        counted = omega arith;
      }
    where
      here : DidAt plan earlier n number
      here = subst (DidAt plan earlier n) (ap (λ (x : NodeName). x.number) named) (record { stands = did.stands; held = did.held })

  pub store_opens : (t : DurableStore D) (own : Actor) (name : StoreName) (actor : StoreActor D) → durable_store.actor_in t ≡ own → is_node own ≡ false → name ≡ store_name plan own
      → ((messages : List Message) → durable_store.StandsFor plan.topology t messages
      → store.StandsFor port plan.topology name (record { acts = messages; held = without_marks t.journal.payloads; stopped = [] }) actor)
      → store.is_down actor ≡ false → (earlier : List Item) → ((b : Actor) → is_down b earlier ≡ false) → HasTaken plan earlier t
      → StoreStands port plan (opened earlier) own actor
  store_opens t own name actor owned kind named stands up earlier all_up did =
      record {
        kind = kind;
        stands =
            subst (λ (x : StoreName). store.StandsFor port plan.topology x (store_past (cluster_of plan) (opened earlier) own) actor) named
            (subst (λ (held : List (List ℕ)). store.StandsFor port plan.topology name (record { acts = messages_taken (taken_of (cluster_of plan) own earlier); held = held; stopped = [] }) actor)
            here.held
            (stands (messages_taken (taken_of (cluster_of plan) own earlier)) here.stands));
        down = up ∙ sym (all_up own);
        counted = omega arith;
      }
    where
      here : TookAt plan earlier t own
      here = subst (TookAt plan earlier t) owned (record { stands = did.stands; held = did.held })
