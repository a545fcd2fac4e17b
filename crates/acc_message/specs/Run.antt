-- Run: which lists of items, newest first, the rules of stores and nodes allow.
use Rattle.std.specs.Prelude.{◌≡◌, ℕ, ◌-◌, Bool, true, false, not, cond, max, nat_lt, ◌==◌, ◌&&◌, ◌||◌, List, [], ◌∷◌, ◌++◌, Option, None, Some, IsTrue}
use Rattle.std.specs.Bool.{beq}
use Rattle.std.specs.List.{slice_get}
use Rattle.std.specs.Option.{option_map}
use Rattle.acc_stamp.specs.declared.stamps.TxnId.{TxnId}
use Rattle.acc_stamp.specs.declared.actors.Actor.{Actor}
use Rattle.acc_stamp.specs.Actor.{node_of, shard_of, actor_of}
use Rattle.acc_stamp.specs.Stamp.{ballot_eq, zero_ballot}
use Rattle.acc_topology.specs.declared.given.NodeSpec.{NodeSpec}
use Rattle.acc_topology.specs.Layout.{Layout}
use Rattle.acc_topology.specs.Sets.{is_among}
use Rattle.acc_txn.specs.declared.parts.BodyParts.{BodyParts}
use Rattle.acc_message.specs.declared.message.Message.{Message}
use Rattle.acc_message.specs.declared.entry.Emitted.{Emitted}
use Rattle.acc_message.specs.declared.entry.Entry.{Entry}
use Rattle.acc_message.specs.declared.entry.Event.{Event}
use Rattle.acc_message.specs.declared.entry.Event.TheVariants.{Begin, Recover, Slow, Message as TakesMessage, Restart}
use Rattle.acc_message.specs.declared.item.Item.{Item}
use Rattle.acc_message.specs.declared.item.Item.TheVariants.{Step, Skipped, Down}
use Rattle.acc_message.specs.Fields.{to_of}
use Rattle.acc_message.specs.Items.{same_actor, message_at, id_of_txn, is_begun}
use Rattle.acc_message.specs.Attempts.{Attempt}
use Rattle.acc_message.specs.Coordinator.{silence, may_slow_down}
use Rattle.acc_message.specs.NodeRules.{Act, Begins, Recovers, Slows, Takes, Restarts, Deed, attempt_of, node_emits}
use Rattle.acc_message.specs.Taken.{Taken}
use Rattle.acc_message.specs.StoreRules.{store_answer}

-- what a run is of: the layout of the cluster, the nodes with the starts of their clocks, and of each transaction, by its
-- number, the home and the body
pub record Cluster : Type 0 where
  pub layout : Layout
  pub starts : List NodeSpec
  pub homes : List ℕ
  pub bodies : List BodyParts

abbrev pub clock_start : List NodeSpec → ℕ → ℕ
clock_start [] node = 0
clock_start (spec ∷ specs) node = cond (spec.id == node) spec.clock (clock_start specs node)

-- ---- what an actor did

abbrev pub recovers : Option TxnId → Option BodyParts → Option Act
recovers None body = None
recovers (Some x) None = None
recovers (Some x) (Some body) = Some (Recovers x body)

-- what an event takes: its number is that of a message among these items, and the transaction that it recovers or slows
-- down has its id there
abbrev pub act_of : Cluster → List Item → Event → Option Act
act_of cluster earlier (Begin txn) = option_map (Begins txn) (slice_get cluster.bodies txn)
act_of cluster earlier (Recover txn) = recovers (id_of_txn earlier txn) (slice_get cluster.bodies txn)
act_of cluster earlier (Slow txn) = option_map Slows (id_of_txn earlier txn)
act_of cluster earlier (TakesMessage number) = option_map Takes (message_at earlier number)
act_of cluster earlier (Restart kept) = Some Restarts

abbrev pub deed_with : Option Act → Emitted → List Deed
deed_with None emitted = []
deed_with (Some act) emitted = record { act = act; emitted = emitted } ∷ []

abbrev pub deed_if : Bool → Cluster → List Item → Entry → List Deed
deed_if true cluster earlier e = deed_with (act_of cluster earlier e.event) e.emitted
deed_if false cluster earlier e = []

abbrev pub deeds_in : Cluster → Actor → List Item → Item → List Deed
deeds_in cluster a earlier (Step e) = deed_if (same_actor e.actor a) cluster earlier e
deeds_in cluster a earlier (Skipped step cause) = []
deeds_in cluster a earlier (Down actor) = []

-- what an actor did in these items, those of lost entries too, the newest first
abbrev pub deeds_of : Cluster → Actor → List Item → List Deed
deeds_of cluster a [] = []
deeds_of cluster a (item ∷ earlier) = deeds_in cluster a earlier item ++ deeds_of cluster a earlier

abbrev pub taken_with : Act → Emitted → List Taken
taken_with (Takes m) emitted = record { message = m; sent = emitted.out } ∷ []
taken_with _ emitted = []

-- the messages that a store took, with what it sent. A restart changes nothing in them
abbrev pub taken_from : List Deed → List Taken
taken_from [] = []
taken_from (deed ∷ past) = taken_with deed.act deed.emitted ++ taken_from past

abbrev pub taken_of : Cluster → Actor → List Item → List Taken
taken_of cluster a items = taken_from (deeds_of cluster a items)

-- ---- what an actor emits

abbrev pub store_emits : Layout → Actor → List Taken → Act → Emitted
store_emits layout a past (Takes m) = record { notes = []; out = store_answer layout a past m }
store_emits layout a past _ = silence

-- the actor of shard 0 is the node itself
abbrev pub is_node : Actor → Bool
is_node a = shard_of a == 0

abbrev pub emits_by : Bool → Cluster → Actor → List Deed → Act → Emitted
emits_by true cluster a past act = node_emits cluster.layout (node_of a) (clock_start cluster.starts (node_of a)) past act
emits_by false cluster a past act = store_emits cluster.layout a (taken_from past) act

-- by the rules of a node or of a store, from the actor's earlier entries and what it takes
abbrev pub emits : Cluster → List Item → Actor → Act → Emitted
emits cluster earlier a act = emits_by (is_node a) cluster a (deeds_of cluster a earlier) act

-- ---- where events may stand

abbrev pub attempt_at : Cluster → List Item → Actor → TxnId → Option Attempt
attempt_at cluster earlier a x =
    attempt_of cluster.layout (node_of a) (clock_start cluster.starts (node_of a)) x (deeds_of cluster a earlier)

-- an attempt at ballot zero that still asks for votes and has a majority of them everywhere
abbrev pub is_slowable : Layout → TxnId → Option Attempt → Bool
is_slowable layout x None = false
is_slowable layout x (Some a) = ballot_eq a.ballot zero_ballot && may_slow_down layout x a a.phase

abbrev pub slows_here : Cluster → List Item → Actor → Act → Bool
slows_here cluster earlier a (Slows x) = is_slowable cluster.layout x (attempt_at cluster earlier a x)
slows_here cluster earlier a _ = false

abbrev pub goes_to : Actor → Act → Bool
goes_to a (Takes m) = same_actor (to_of m) a
goes_to a _ = false

abbrev pub IsNodeOf : Layout → Actor → Type 0
IsNodeOf layout a = (node : ℕ) × IsTrue (is_among layout.nodes node) × (a ≡ actor_of node 0)

abbrev pub IsHomeOf : Cluster → ℕ → Actor → Type 0
IsHomeOf cluster txn a = (node : ℕ) × (slice_get cluster.homes txn ≡ Some node) × (a ≡ actor_of node 0)

-- Where an event may come: a begin at the home, if the transaction has none so far; a recover at any node, once there is one;
-- a slow at the home, if there is an attempt to slow down; a message at the actor that it goes to, however often; a restart
-- anywhere.
abbrev pub MayStand : Cluster → List Item → Actor → Act → Event → Type 0
MayStand cluster earlier a act (Begin txn) = IsHomeOf cluster txn a × IsTrue (not (is_begun earlier txn))
MayStand cluster earlier a act (Recover txn) = IsNodeOf cluster.layout a × IsTrue (is_begun earlier txn)
MayStand cluster earlier a act (Slow txn) = IsHomeOf cluster txn a × IsTrue (slows_here cluster earlier a act)
MayStand cluster earlier a act (TakesMessage number) = IsTrue (goes_to a act)
MayStand cluster earlier a act (Restart kept) = Unit {0}

-- an entry stands on the items before it
pub record StandsOn (cluster : Cluster) (earlier : List Item) (e : Entry) : Type 0 where
  pub act : Act
  pub act_is : act_of cluster earlier e.event ≡ Some act
  pub place : MayStand cluster earlier e.actor act e.event
  pub emitted : e.emitted ≡ emits cluster earlier e.actor act

abbrev pub Stands : Cluster → List Item → Item → Type 0
Stands cluster earlier (Step e) = StandsOn cluster earlier e
Stands cluster earlier (Skipped step cause) = Unit {0}
Stands cluster earlier (Down actor) = Unit {0}

abbrev pub EachStands : Cluster → List Item → Type 0
EachStands cluster [] = Unit {0}
EachStands cluster (item ∷ earlier) = Stands cluster earlier item × EachStands cluster earlier

-- ---- lost entries and downs

abbrev pub kept_of : Event → ℕ
kept_of (Restart kept) = kept
kept_of _ = 0

-- Of one actor, from the newest item to the oldest: so many entries are still to be lost ones in front of a restart.
abbrev pub mark_fits : Actor → ℕ → Item → Bool
mark_fits a owed (Step e) = not (same_actor e.actor a) || beq e.lost (nat_lt 0 owed)
mark_fits a owed (Skipped step cause) = true
mark_fits a owed (Down actor) = not (same_actor actor a) || owed == 0

abbrev pub owed_after : Actor → ℕ → Item → ℕ
owed_after a owed (Step e) = cond (same_actor e.actor a) (max (owed - 1) (kept_of e.event)) owed
owed_after a owed (Skipped step cause) = owed
owed_after a owed (Down actor) = owed

abbrev pub lost_fit : Actor → ℕ → List Item → Bool
lost_fit a owed [] = owed == 0
lost_fit a owed (item ∷ earlier) = mark_fits a owed item && lost_fit a (owed_after a owed item) earlier

-- a restart has as many lost entries right in front of it, among the items of its actor, as it kept, and no others are lost
abbrev pub LostBeforeRestarts : List Item → Type 0
LostBeforeRestarts items = (a : Actor) → IsTrue (lost_fit a 0 items)

-- the actor is down: since its last down it has had nothing but lost entries
abbrev pub down_after : Actor → Item → Bool → Bool
down_after a (Step e) before = before && (not (same_actor e.actor a) || e.lost)
down_after a (Skipped step cause) before = before
down_after a (Down actor) before = same_actor actor a || before

abbrev pub is_down : Actor → List Item → Bool
is_down a [] = false
is_down a (item ∷ earlier) = down_after a item (is_down a earlier)

abbrev pub is_restart_event : Event → Bool
is_restart_event (Restart kept) = true
is_restart_event _ = false

-- an actor that is down has downs and lost entries, and then its restart
abbrev pub follows_downs : List Item → Item → Bool
follows_downs earlier (Step e) = not (is_down e.actor earlier) || e.lost || is_restart_event e.event
follows_downs earlier (Skipped step cause) = true
follows_downs earlier (Down actor) = true

abbrev pub downs_end : List Item → Bool
downs_end [] = true
downs_end (item ∷ earlier) = follows_downs earlier item && downs_end earlier

-- ---- the whole

pub record IsRun (cluster : Cluster) (items : List Item) : Type 0 where
  pub stands : EachStands cluster items
  pub lost : LostBeforeRestarts items
  pub downs : IsTrue (downs_end items)
