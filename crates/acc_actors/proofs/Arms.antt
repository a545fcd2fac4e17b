-- A call of an actor's disk is armed.
use Rattle.std.proofs.Common.{◌≡◌, ℕ, ◌≤◌, List, [], Option, Some, sym, ◌∙◌, subst}
use Rattle.acc_stamp.specs.declared.actors.Actor.{Actor}
use Rattle.acc_stamp.specs.Actor.{node_of}
use Rattle.acc_topology.specs.Layout.{Layout}
use Rattle.acc_ports.specs.declared.disk.Disk.{Ghosts}
use Rattle.acc_message.specs.declared.message.Message.{Message}
use Rattle.acc_message.specs.NodeRules.{Act}
use Rattle.acc_payloads.specs.Items.{downs_in}
use Rattle.acc_payloads.specs.Stops.{Stop, Past}
use Rattle.acc_durable_node.specs.declared.name.NodeName.{NodeName}
use Rattle.acc_durable_node.specs.Actor as node
use Rattle.acc_durable_store.specs.declared.name.StoreName.{StoreName}
use Rattle.acc_durable_store.specs.Actor as store
use Rattle.acc_durable_node.specs.declared.actor.NodeActor.{NodeActor}
use Rattle.acc_durable_store.specs.declared.actor.StoreActor.{StoreActor}
use Rattle.acc_schedule.specs.Content.{Content}
use Rattle.acc_schedule_runs.specs.Situations.{Situation}
use Rattle.acc_schedule_runs.specs.Schedules.{cluster_of}
use Rattle.acc_schedule_runs.specs.Disks.{Disks, after_fail}
use Rattle.acc_actors.specs.declared.slot.Slot.{Slot}
use Rattle.acc_actors.specs.declared.slot.Slot.TheVariants.{Node, Store}
use Rattle.acc_actors.specs.Pasts.{node_past, store_past}
use Rattle.acc_actors.specs.Slots.{NodeStands, StoreStands, SlotStands, IsStrictSlot, node_name, store_name}
use Rattle.acc_actors.proofs.Few.{entry_own}

module _ {D : Type 0} (port : Ghosts D) (plan : Content) (s : Situation) (a : Actor) (slot : Slot D) where
  pub node_armed : (n new : NodeActor D) → slot ≡ Node n
      → ((layout : Layout) (name : NodeName) (past : Past Act) → node.StandsFor port layout name past n → node.StandsFor port layout name past new)
      → node.is_down new ≡ node.is_down n → (port.state (node.disk_of new)).faults ≡ (port.state (node.disk_of n)).faults → SlotStands port plan s a slot → SlotStands port plan s a (Node new)
  node_armed n new is stands down same h =
      let here : NodeStands port plan s a n = subst (λ (x : Slot D). SlotStands port plan s a x) is h in
      record {
        kind = here.kind;
        stands = stands plan.topology (node_name plan (node_of a)) (node_past (cluster_of plan) s a) here.stands;
        down = down ∙ here.down;
        counted = subst (λ count. downs_in a s.own ≤ count) (sym same) here.counted;
      }

  pub store_armed : (t new : StoreActor D) → slot ≡ Store t
      → ((layout : Layout) (name : StoreName) (past : Past Message) (staged : List (Stop Message)) → store.IsStaging port layout name past staged t
      → store.IsStaging port layout name past staged new)
      → store.is_down new ≡ store.is_down t → (port.state (store.disk_of new)).faults ≡ (port.state (store.disk_of t)).faults → SlotStands port plan s a slot → SlotStands port plan s a (Store new)
  store_armed t new is stands down same h =
      let here : StoreStands port plan s a t = subst (λ (x : Slot D). SlotStands port plan s a x) is h in
      record {
        kind = here.kind;
        stands = stands plan.topology (store_name plan a) (store_past (cluster_of plan) s a) [] here.stands;
        down = down ∙ here.down;
        counted = subst (λ count. downs_in a s.own ≤ count) (sym same) here.counted;
      }

module _ {D : Type 0} (port : Ghosts D) (plan : Content) (s : Situation) (disks : Disks) (a : Actor) (calls : ℕ) (slot : Slot D) where
  pub node_armed_strictly : (n new : NodeActor D) → slot ≡ Node n
      → ((layout : Layout) (name : NodeName) (armed passed : Option ℕ) (past : Past Act) → node.IsStrictAt port layout name armed passed past n
      → node.IsStrictAt port layout name (Some calls) passed past new)
      → IsStrictSlot port plan s disks a slot → IsStrictSlot port plan s (after_fail a calls disks) a (Node new)
  node_armed_strictly n new is strictly h =
      subst (λ armed. node.IsStrictAt port plan.topology (node_name plan (node_of a)) armed (disks.passed a) (node_past (cluster_of plan) s a) new)
      (sym (entry_own a (Some calls) disks.armed))
      (strictly plan.topology (node_name plan (node_of a)) (disks.armed a) (disks.passed a) (node_past (cluster_of plan) s a)
      (subst (λ (x : Slot D). IsStrictSlot port plan s disks a x) is h))

  pub store_armed_strictly : (t new : StoreActor D) → slot ≡ Store t
      → ((layout : Layout) (name : StoreName) (armed passed : Option ℕ) (past : Past Message) → store.IsStrictAt port layout name armed passed past t
      → store.IsStrictAt port layout name (Some calls) passed past new)
      → IsStrictSlot port plan s disks a slot → IsStrictSlot port plan s (after_fail a calls disks) a (Store new)
  store_armed_strictly t new is strictly h =
      subst (λ armed. store.IsStrictAt port plan.topology (store_name plan a) armed (disks.passed a) (store_past (cluster_of plan) s a) new)
      (sym (entry_own a (Some calls) disks.armed))
      (strictly plan.topology (store_name plan a) (disks.armed a) (disks.passed a) (store_past (cluster_of plan) s a)
      (subst (λ (x : Slot D). IsStrictSlot port plan s disks a x) is h))
