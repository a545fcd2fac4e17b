-- Actors as they were opened over strict disks, with nothing armed.
use Rattle.std.proofs.Common.{◌≡◌, ℕ, List, Option, None, sym, subst}
use Rattle.acc_stamp.specs.declared.actors.Actor.{Actor}
use Rattle.acc_stamp.specs.Actor.{actor_of}
use Rattle.acc_ports.specs.declared.disk.Disk.{Ghosts}
use Rattle.acc_message.specs.declared.message.Message.{Message}
use Rattle.acc_message.specs.declared.item.Item.{Item}
use Rattle.acc_message.specs.NodeRules.{Act}
use Rattle.acc_safety.proofs.DrawFacts.{node_is}
use Rattle.acc_payloads.specs.Stops.{Past}
use Rattle.acc_durable_node.specs.declared.name.NodeName.{NodeName}
use Rattle.acc_durable_node.specs.Actor as node
use Rattle.acc_durable_store.specs.Actor as store
use Rattle.acc_durable_node.specs.declared.actor.NodeActor.{NodeActor}
use Rattle.acc_durable_store.specs.declared.name.StoreName.{StoreName}
use Rattle.acc_durable_store.specs.declared.actor.StoreActor.{StoreActor}
use Rattle.acc_schedule.specs.Content.{Content}
use Rattle.acc_schedule_runs.specs.Situations.{opened}
use Rattle.acc_schedule_runs.specs.Schedules.{cluster_of}
use Rattle.acc_schedule_runs.specs.Disks.{fresh_disks}
use Rattle.acc_actors.specs.declared.slot.Slot.TheVariants.{Node, Store}
use Rattle.acc_actors.specs.Pasts.{node_past, store_past}
use Rattle.acc_actors.specs.Slots.{node_name, store_name, IsStrictSlot}

module _ {D : Type 0} (port : Ghosts D) (plan : Content) where
  pub node_unarmed : (number : ℕ) (name : NodeName) (now : Option ℕ) (actor : NodeActor D) → name ≡ node_name plan number → now ≡ None
      → ((passed : Option ℕ) (past : Past Act) → node.IsStrictAt port plan.topology name now passed past actor)
      → (earlier : List Item) → IsStrictSlot port plan (opened earlier) fresh_disks (actor_of number 0) (Node actor)
  node_unarmed number name now actor named unarmed strictly earlier =
      subst (λ (m : ℕ). node.IsStrictAt port plan.topology (node_name plan m) None None past actor) (sym (node_is number))
      (subst (λ (x : NodeName). node.IsStrictAt port plan.topology x None None past actor) named
      (subst (λ (x : Option ℕ). node.IsStrictAt port plan.topology name x None past actor) unarmed (strictly None past)))
    where
      past : Past Act
      past = node_past (cluster_of plan) (opened earlier) (actor_of number 0)

  pub store_unarmed : (own : Actor) (name : StoreName) (now : Option ℕ) (actor : StoreActor D) → name ≡ store_name plan own → now ≡ None
      → ((passed : Option ℕ) (past : Past Message) → store.IsStrictAt port plan.topology name now passed past actor)
      → (earlier : List Item) → IsStrictSlot port plan (opened earlier) fresh_disks own (Store actor)
  store_unarmed own name now actor named unarmed strictly earlier =
      subst (λ (x : StoreName). store.IsStrictAt port plan.topology x None None past actor) named
      (subst (λ (x : Option ℕ). store.IsStrictAt port plan.topology name x None past actor) unarmed (strictly None past))
    where
      past : Past Message
      past = store_past (cluster_of plan) (opened earlier) own
