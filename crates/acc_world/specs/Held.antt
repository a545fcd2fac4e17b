-- When an actor that a world keeps stands for what it did, and what its steps leave.
use Rattle.std.specs.Prelude.{◌≡◌, ℕ, true, false, IsTrue, List, [], ◌∷◌, ◌++◌, Option, None, Some}
use Rattle.acc_stamp.specs.declared.actors.Actor.{Actor}
use Rattle.acc_stamp.specs.Actor.{node_of}
use Rattle.acc_topology.specs.Sets.{is_among}
use Rattle.acc_message.specs.declared.entry.Event.{Event}
use Rattle.acc_message.specs.declared.entry.Event.TheVariants.{Begin, Recover, Slow, Message as TakesMessage, Restart}
use Rattle.acc_message.specs.declared.entry.Emitted.{Emitted}
use Rattle.acc_message.specs.declared.item.Skip.TheVariants as skips
use Rattle.acc_message.specs.declared.item.Item.{Item}
use Rattle.acc_message.specs.Items.{id_of_txn}
use Rattle.acc_message.specs.NodeRules.{Act, Restarts, Deed}
use Rattle.acc_message.specs.Coordinator.{silence}
use Rattle.acc_message.specs.StoreRules.{replay}
use Rattle.acc_message.specs.Run.{Cluster, act_of, clock_start, deeds_of, taken_from, is_node, emits, IsHomeOf, MayStand}
use Rattle.acc_actor_laws.specs.TakenAlone.{messages_taken}
use Rattle.acc_safety.specs.RunLaws.{acts_done}
use Rattle.acc_safety.specs.Valid.{IsValidCluster, IsStanding}
use Rattle.acc_run_laws.specs.Asks.{slow_skip}
use Rattle.acc_run_laws.specs.Sends.{AreFew}
use Rattle.acc_pasts.specs.Entries.{MayTake}
use Rattle.acc_schedule_runs.specs.Situations.{Situation}
use Rattle.acc_history.specs.declared.history.History.{History}
use Rattle.acc_history.specs.Stands.{StandsFor as IsHistoryOf}
use Rattle.acc_node.specs.declared.error.NodeError.{NodeError}
use Rattle.acc_node.specs.declared.error.NodeError.TheVariants.{Begun, Unknown, NoQuorum, OutOfMemory}
use Rattle.acc_node.specs.declared.node.Node.{Node}
use Rattle.acc_node.specs.Stands.{StandsFor as IsNodeOf}
use Rattle.acc_store.specs.declared.store.Store.{Store}
use Rattle.acc_store.specs.Stands.{StandsFor as IsStoreOf, actor_of as store_actor}
use Rattle.acc_world.specs.declared.setup.Setup.{Setup}
use Rattle.acc_world.specs.declared.held.Held.{Held}
use Rattle.acc_world.specs.declared.held.Held.TheVariants.{Node as HeldNode, Store as HeldStore}
use Rattle.acc_world.specs.Values.{cluster}

abbrev pub cluster_of : Setup → Cluster
cluster_of setup = cluster setup.topology setup.starts setup.homes setup.bodies

-- ---- one actor

pub record NodeStands (cluster : Cluster) (a : Actor) (deeds : List Deed) (n : Node) : Type 0 where
  pub kind : is_node a ≡ true
  pub stands : IsNodeOf cluster.layout (node_of a) (clock_start cluster.starts (node_of a)) n (acts_done deeds)

pub record StoreStands (cluster : Cluster) (a : Actor) (deeds : List Deed) (t : Store) : Type 0 where
  pub kind : is_node a ≡ false
  pub actor : store_actor t ≡ a
  pub stands : IsStoreOf cluster.layout t (replay cluster.layout a (messages_taken (taken_from deeds)))

abbrev pub HeldStands : Cluster → Actor → List Deed → Held → Type 0
HeldStands cluster a deeds (HeldNode n) = NodeStands cluster a deeds n
HeldStands cluster a deeds (HeldStore t) = StoreStands cluster a deeds t

-- it stands for the deeds, where there is one
abbrev pub HeldIs : Cluster → Actor → List Deed → Option Held → Type 0
HeldIs cluster a deeds None = Unit {0}
HeldIs cluster a deeds (Some held) = HeldStands cluster a deeds held

-- ---- the past

abbrev pub past_of : List Item → Situation
past_of items = record { earlier = []; own = items; dropped = []; stopped = [] }

-- the history has the items of the cluster, of which there are few
pub record IsPast (cluster : Cluster) (history : History) (items : List Item) : Type 0 where
  pub standing : IsStanding cluster items
  pub few : AreFew items
  pub past : IsHistoryOf history (past_of items)

-- it is a node of the cluster, or a store
pub record IsActorOf (cluster : Cluster) (a : Actor) : Type 0 where
  pub valid : IsValidCluster cluster
  pub node : is_node a ≡ true → IsTrue (is_among cluster.layout.nodes (node_of a))

-- the item stands in the past, and the actor at those before it
pub record IsRedone (setup : Setup) (history : History) (items earlier : List Item) (item : Item) (a : Actor) (held : Held) : Type 0 where
  pub past : IsPast (cluster_of setup) history items
  pub front : List Item
  pub place : items ≡ front ++ (item ∷ earlier)
  pub stands : HeldStands (cluster_of setup) a (deeds_of (cluster_of setup) a earlier) held

-- ---- a step

abbrev pub restarted : Deed
restarted = record { act = Restarts; emitted = silence }

-- where an event may be tried: a slow at the home, as it may be refused
abbrev pub MayTryAt : Cluster → List Item → Actor → Act → Event → Type 0
MayTryAt cluster items a act (Begin txn) = MayStand cluster items a act (Begin txn)
MayTryAt cluster items a act (Recover txn) = MayStand cluster items a act (Recover txn)
MayTryAt cluster items a act (Slow txn) = IsHomeOf cluster txn a
MayTryAt cluster items a act (TakesMessage number) = MayStand cluster items a act (TakesMessage number)
MayTryAt cluster items a act (Restart kept) = MayStand cluster items a act (Restart kept)

-- the event takes this, and may be tried
pub record MayTry (cluster : Cluster) (items : List Item) (a : Actor) (event : Event) (act : Act) : Type 0 where
  pub act_is : act_of cluster items event ≡ Some act
  pub place : MayTryAt cluster items a act event

-- a past, and the earlier items of it at which an actor stands
pub record Moment : Type 0 where
  pub items : List Item
  pub earlier : List Item

abbrev pub moment : List Item → List Item → Moment
moment items earlier = record { items = items; earlier = earlier }

-- The actor stands at some earlier items of the past, and may be tried with the event there.
pub record IsAsked (setup : Setup) (history : History) (a : Actor) (event : Event) (held : Held) (at : Moment) (act : Act) : Type 0 where
  pub past : IsHistoryOf history (past_of at.items)
  pub known : act_of (cluster_of setup) at.items event ≡ Some act
  pub standing : IsStanding (cluster_of setup) at.earlier
  pub few : AreFew at.earlier
  pub may : MayTry (cluster_of setup) at.earlier a event act
  pub stands : HeldStands (cluster_of setup) a (deeds_of (cluster_of setup) a at.earlier) held

pub record MayAsk (setup : Setup) (history : History) (a : Actor) (event : Event) (held : Held) : Type 0 where
  pub items : List Item
  pub earlier : List Item
  pub act : Act
  pub asked : IsAsked setup history a event held (moment items earlier) act

-- it may take the event, gives what the rules say, and stands for it
pub record HasTaken (cluster : Cluster) (earlier : List Item) (a : Actor) (event : Event) (act : Act) (emitted : Emitted) (held : Held) : Type 0 where
  pub may : MayTake cluster earlier a event act
  pub emits_it : emitted ≡ emits cluster earlier a act
  pub stands : HeldStands cluster a (record { act = act; emitted = emitted } ∷ deeds_of cluster a earlier) held

-- why a slow is refused
abbrev pub IsSlowRefused : Cluster → List Item → ℕ → NodeError → Type 0
IsSlowRefused cluster items txn Begun = Unit {0}
IsSlowRefused cluster items txn Unknown = slow_skip cluster items txn (id_of_txn items txn) ≡ Some (skips.Unknown txn)
IsSlowRefused cluster items txn NoQuorum = slow_skip cluster items txn (id_of_txn items txn) ≡ Some (skips.NoQuorum txn)
IsSlowRefused cluster items txn OutOfMemory = Unit {0}

abbrev pub IsRefused : Cluster → List Item → Event → NodeError → Type 0
IsRefused cluster items (Begin txn) error = Unit {0}
IsRefused cluster items (Recover txn) error = Unit {0}
IsRefused cluster items (Slow txn) error = IsSlowRefused cluster items txn error
IsRefused cluster items (TakesMessage number) error = Unit {0}
IsRefused cluster items (Restart kept) error = Unit {0}
