-- From what the restarts of actors ensure to what their slots are after them.
use Rattle.std.proofs.Common.{◌≡◌, ℕ, ◌≤◌, not, Option, None, Result, Ok, Err, IfOk, ap, subst}
use Rattle.acc_base.specs.declared.memory.OutOfMemory.{OutOfMemory}
use Rattle.acc_stamp.specs.declared.actors.Actor.{Actor}
use Rattle.acc_stamp.specs.Actor.{node_of}
use Rattle.acc_topology.specs.Layout.{Layout}
use Rattle.acc_ports.specs.declared.disk.Disk.{Ghosts}
use Rattle.acc_ports.specs.Faults.{Rose}
use Rattle.acc_message.specs.declared.message.Message.{Message}
use Rattle.acc_message.specs.NodeRules.{Act}
use Rattle.acc_payloads.specs.declared.stops.Restarted.{Restarted}
use Rattle.acc_payloads.specs.declared.stops.Restarted.TheVariants.{Down}
use Rattle.acc_durable_node.specs.declared.actor.NodeActor.{NodeActor}
use Rattle.acc_durable_store.specs.declared.actor.StoreActor.{StoreActor}
use Rattle.acc_payloads.specs.Stops.{Past, is_up, KeepsByChoice}
use Rattle.acc_durable_node.specs.declared.name.NodeName.{NodeName}
use Rattle.acc_durable_node.specs.Actor as node
use Rattle.acc_durable_store.specs.declared.name.StoreName.{StoreName}
use Rattle.acc_durable_store.specs.Actor as store
use Rattle.acc_schedule.specs.Content.{Content}
use Rattle.acc_pasts.specs.Stopped.{IsSound}
use Rattle.acc_schedule_runs.specs.Situations.{Situation}
use Rattle.acc_schedule_runs.specs.Schedules.{cluster_of}
use Rattle.acc_schedule_runs.specs.Disks.{Disks}
use Rattle.acc_actors.specs.declared.slot.Slot.{Slot}
use Rattle.acc_actors.specs.declared.slot.Slot.TheVariants.{Node, Store}
use Rattle.acc_actors.specs.Pasts.{node_past, store_past}
use Rattle.acc_actors.specs.Slots.{NodeStands, StoreStands, SlotStands, IsStrictSlot, node_name, store_name}
use Rattle.acc_actors.specs.Asked.{over_disks, IsFew, HasRestartedAt, HasRestartedStrictlyAt}
use Rattle.acc_actors.proofs.RestartSlots.{node_restarted, node_restarted_strictly, store_restarted, store_restarted_strictly}

module _ {D : Type 0} (port : Ghosts D) (plan : Content) (a : Actor) (slot : Slot D) where
  module _ (n : NodeActor D) (is : slot ≡ Node n) (new : NodeActor D) where
    node_there : (s : Situation) → SlotStands port plan s a slot → NodeStands port plan s a n
    node_there s stands = subst (λ (x : Slot D). SlotStands port plan s a x) is stands

    pub node_called : (r : Result Restarted OutOfMemory)
        → IfOk r (λ found. (layout : Layout) (name : NodeName) (past : Past Act) → node.StandsFor port layout name past n
        → node.KeptIn layout name past found × node.StandsFor port layout name (node.past_after found past) new)
        → IfOk r (λ found. node.is_down new ≡ not (is_up found)) → (port.state (node.disk_of n)).faults ≤ (port.state (node.disk_of new)).faults
        → (r ≡ Ok Down → Rose (port.state (node.disk_of n)).faults (port.state (node.disk_of new)).faults)
        → IfOk r (λ found. (s : Situation) → IsSound (cluster_of plan) s → IsFew s → SlotStands port plan s a slot → HasRestartedAt port plan s a found (Node new))
    node_called (Err e) ok down counted cause = tt
    node_called (Ok found) ok down counted cause = λ s sound few stands.
        let here : NodeStands port plan s a n = node_there s stands in
        let told = ok plan.topology (node_name plan (node_of a)) (node_past (cluster_of plan) s a) here.stands in
        node_restarted port plan s a sound n new here few found told.0 told.1 down counted (λ none. cause (ap Ok none))

    pub node_called_strictly : (choice : ℕ) (r : Result Restarted OutOfMemory)
        → IfOk r (λ found. (layout : Layout) (name : NodeName) (past : Past Act) → node.StandsFor port layout name past n
        → node.KeptIn layout name past found × node.StandsFor port layout name (node.past_after found past) new)
        → ((layout : Layout) (name : NodeName) (armed passed : Option ℕ) (past : Past Act) → node.StandsFor port layout name past n
        → node.IsStrictAt port layout name armed passed past n
        → IfOk r (λ found. KeepsByChoice passed choice past.stopped found
        × node.IsStrictAt port layout name None None (node.past_after found past) new))
        → IfOk r (λ found. (s : Situation) (disks : Disks) → IsSound (cluster_of plan) s → SlotStands port plan s a slot
        → IsStrictSlot port plan s disks a slot → HasRestartedStrictlyAt port plan (over_disks s disks) a choice found (Node new))
    node_called_strictly choice (Err e) ok strictly = tt
    node_called_strictly choice (Ok found) ok strictly = λ s disks sound stands are.
        let here : NodeStands port plan s a n = node_there s stands in
        let told = ok plan.topology (node_name plan (node_of a)) (node_past (cluster_of plan) s a) here.stands in
        node_restarted_strictly port plan s a sound n new here disks choice found told.0
        (strictly plan.topology (node_name plan (node_of a)) (disks.armed a) (disks.passed a) (node_past (cluster_of plan) s a) here.stands
        (subst (λ (x : Slot D). IsStrictSlot port plan s disks a x) is are))

  module _ (t : StoreActor D) (is : slot ≡ Store t) (new : StoreActor D) (layout : Layout) (layout_is : layout ≡ plan.topology) where
    store_there : (s : Situation) → SlotStands port plan s a slot → StoreStands port plan s a t
    store_there s stands = subst (λ (x : Slot D). SlotStands port plan s a x) is stands

    abbrev Told : Layout → Restarted → Type 0
    Told l found =
        (name : StoreName) (past : Past Message) → store.StandsFor port l name past t
        → store.KeptIn l name.actor past found × store.StandsFor port l name (store.past_after found past) new

    pub store_called : (r : Result Restarted OutOfMemory)
        → IfOk r (λ found. (name : StoreName) (past : Past Message) → store.StandsFor port layout name past t
        → store.KeptIn layout name.actor past found × store.StandsFor port layout name (store.past_after found past) new)
        → IfOk r (λ found. store.is_down new ≡ not (is_up found)) → (port.state (store.disk_of t)).faults ≤ (port.state (store.disk_of new)).faults
        → (r ≡ Ok Down → Rose (port.state (store.disk_of t)).faults (port.state (store.disk_of new)).faults)
        → IfOk r (λ found. (s : Situation) → IsSound (cluster_of plan) s → IsFew s → SlotStands port plan s a slot → HasRestartedAt port plan s a found (Store new))
    store_called (Err e) ok down counted cause = tt
    store_called (Ok found) ok down counted cause = λ s sound few stands.
        let here : StoreStands port plan s a t = store_there s stands in
        let told = subst (λ l. Told l found) layout_is ok (store_name plan a) (store_past (cluster_of plan) s a) here.stands in
        store_restarted port plan s a sound t new here few found told.0 told.1 down counted (λ none. cause (ap Ok none))

    pub store_called_strictly : (choice : ℕ) (r : Result Restarted OutOfMemory)
        → IfOk r (λ found. (name : StoreName) (past : Past Message) → store.StandsFor port layout name past t
        → store.KeptIn layout name.actor past found × store.StandsFor port layout name (store.past_after found past) new)
        → ((name : StoreName) (armed passed : Option ℕ) (past : Past Message) → store.StandsFor port layout name past t
        → store.IsStrictAt port layout name armed passed past t
        → IfOk r (λ found. KeepsByChoice passed choice past.stopped found
        × store.IsStrictAt port layout name None None (store.past_after found past) new))
        → IfOk r (λ found. (s : Situation) (disks : Disks) → IsSound (cluster_of plan) s → SlotStands port plan s a slot
        → IsStrictSlot port plan s disks a slot → HasRestartedStrictlyAt port plan (over_disks s disks) a choice found (Store new))
    store_called_strictly choice (Err e) ok strictly = tt
    store_called_strictly choice (Ok found) ok strictly = λ s disks sound stands are.
        let here : StoreStands port plan s a t = store_there s stands in
        let told = subst (λ l. Told l found) layout_is ok (store_name plan a) (store_past (cluster_of plan) s a) here.stands in
        store_restarted_strictly port plan s a sound t new here disks choice found told.0
        (subst (λ (l : Layout). (name : StoreName) (armed passed : Option ℕ) (past : Past Message) → store.StandsFor port l name past t
        → store.IsStrictAt port l name armed passed past t
        → KeepsByChoice passed choice past.stopped found
        × store.IsStrictAt port l name None None (store.past_after found past) new) layout_is strictly
        (store_name plan a) (disks.armed a) (disks.passed a) (store_past (cluster_of plan) s a) here.stands
        (subst (λ (x : Slot D). IsStrictSlot port plan s disks a x) is are))
