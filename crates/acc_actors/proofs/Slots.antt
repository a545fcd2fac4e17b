-- Slots of actors that nothing has touched.
use Rattle.std.proofs.Common.{◌≡◌, ◌≤◌, sym, ◌∙◌, subst}
use Rattle.acc_stamp.specs.declared.actors.Actor.{Actor}
use Rattle.acc_stamp.specs.Actor.{node_of}
use Rattle.acc_ports.specs.declared.disk.Disk.{Ghosts}
use Rattle.acc_message.specs.NodeRules.{Act}
use Rattle.acc_message.specs.declared.message.Message.{Message}
use Rattle.acc_payloads.specs.Stops.{Past}
use Rattle.acc_durable_node.specs.Actor as node
use Rattle.acc_durable_store.specs.Actor as store
use Rattle.acc_schedule.specs.Content.{Content}
use Rattle.acc_schedule_runs.specs.Situations.{Situation}
use Rattle.acc_schedule_runs.specs.Schedules.{cluster_of}
use Rattle.acc_schedule_runs.specs.Disks.{Disks}
use Rattle.acc_actors.specs.Pasts.{node_past, store_past}
use Rattle.acc_actors.specs.Slots.{SlotStands, IsStrictSlot, node_name, store_name}
use Rattle.acc_actors.specs.declared.slot.Slot.{Slot}
use Rattle.acc_actors.specs.declared.slot.Slot.TheVariants.{Empty, Node, Store}
use Rattle.acc_actors.proofs.Apart.{IsApart, node_apart, store_apart}

module _ {D : Type 0} (plan : Content) (s next : Situation) (a : Actor) (apart : IsApart (cluster_of plan) s next a) where
  pub slot_apart : (port : Ghosts D) (slot : Slot D) → SlotStands port plan s a slot → SlotStands port plan next a slot
  slot_apart port Empty h = h
  slot_apart port (Node n) h =
      record {
        kind = h.kind;
        stands =
            subst (λ (past : Past Act). node.StandsFor port plan.topology (node_name plan (node_of a)) past n)
            (sym (node_apart (cluster_of plan) s next a apart)) h.stands;
        down = h.down ∙ sym apart.untouched.down;
        counted = subst (λ count. count ≤ (port.state (node.disk_of n)).faults) (sym apart.downs) h.counted;
      }
  slot_apart port (Store t) h =
      record {
        kind = h.kind;
        stands = subst (λ (past : Past Message). store.StandsFor port plan.topology (store_name plan a) past t) (sym (store_apart (cluster_of plan) s next a apart)) h.stands;
        down = h.down ∙ sym apart.untouched.down;
        counted = subst (λ count. count ≤ (port.state (store.disk_of t)).faults) (sym apart.downs) h.counted;
      }

  pub strict_apart : (port : Ghosts D) (disks later : Disks) (slot : Slot D)
      → later.armed a ≡ disks.armed a → later.passed a ≡ disks.passed a → IsStrictSlot port plan s disks a slot
      → IsStrictSlot port plan next later a slot
  strict_apart port disks later Empty same_armed same_passed h = h
  strict_apart port disks later (Node n) same_armed same_passed h =
      subst (λ (past : Past Act). node.IsStrictAt port plan.topology (node_name plan (node_of a)) (later.armed a) (later.passed a) past n)
      (sym (node_apart (cluster_of plan) s next a apart))
      (subst (λ calls. node.IsStrictAt port plan.topology (node_name plan (node_of a)) calls (later.passed a) (node_past (cluster_of plan) s a) n) (sym same_armed)
      (subst (λ calls. node.IsStrictAt port plan.topology (node_name plan (node_of a)) (disks.armed a) calls (node_past (cluster_of plan) s a) n) (sym same_passed) h))
  strict_apart port disks later (Store t) same_armed same_passed h =
      subst (λ (past : Past Message). store.IsStrictAt port plan.topology (store_name plan a) (later.armed a) (later.passed a) past t)
      (sym (store_apart (cluster_of plan) s next a apart))
      (subst (λ calls. store.IsStrictAt port plan.topology (store_name plan a) calls (later.passed a) (store_past (cluster_of plan) s a) t) (sym same_armed)
      (subst (λ calls. store.IsStrictAt port plan.topology (store_name plan a) (disks.armed a) calls (store_past (cluster_of plan) s a) t) (sym same_passed) h))
