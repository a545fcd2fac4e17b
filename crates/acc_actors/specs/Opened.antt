-- What an actor is that was opened, after an earlier run.
use Rattle.std.specs.Prelude.{◌≡◌, List, None, IsTrue}
use Rattle.acc_stamp.specs.Actor.{actor_of}
use Rattle.acc_ports.specs.declared.disk.Disk.{Ghosts}
use Rattle.acc_message.specs.declared.item.Item.{Item}
use Rattle.acc_message.specs.Run.{deeds_of, taken_of}
use Rattle.acc_actor_laws.specs.TakenAlone.{messages_taken}
use Rattle.acc_safety.specs.RunLaws.{acts_done}
use Rattle.acc_payloads.specs.Items.{payloads_in, without_marks}
use Rattle.acc_schedule.specs.Content.{Content}
use Rattle.acc_durable_node.specs.declared.node.DurableNode.{DurableNode}
use Rattle.acc_durable_store.specs.declared.store.DurableStore.{DurableStore}
use Rattle.acc_durable_node.specs.Node as node
use Rattle.acc_durable_store.specs.Store as store
use Rattle.acc_schedule_runs.specs.Schedules.{cluster_of}

-- it stands for its part in the earlier run
pub record HasDone {D : Type 0} (plan : Content) (earlier : List Item) (n : DurableNode D) : Type 0 where
  pub stands : node.StandsFor plan.topology n (acts_done (deeds_of (cluster_of plan) (actor_of n.name.number 0) earlier))
  pub held : without_marks n.journal.payloads ≡ payloads_in (actor_of n.name.number 0) earlier

pub record HasTaken {D : Type 0} (plan : Content) (earlier : List Item) (t : DurableStore D) : Type 0 where
  pub stands : store.StandsFor plan.topology t (messages_taken (taken_of (cluster_of plan) (store.actor_in t) earlier))
  pub held : without_marks t.journal.payloads ≡ payloads_in (store.actor_in t) earlier

-- a disk is strict, and nothing is armed there
abbrev pub IsUnarmed : {D : Type 0} → Ghosts D → D → Type 0
IsUnarmed port disk = IsTrue (port.state disk).strict × ((port.state disk).armed ≡ None)
