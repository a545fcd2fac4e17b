-- Messages that a store takes as a group: while they are staged, and while they are entered one after another.
use Rattle.std.specs.Prelude.{◌≡◌, ◌≢◌, ℕ, ◌<◌, ◌≤◌, Bool, true, false, List, [], ◌∷◌, length, map, drop, sum, Option, None, Some, Contains}
use Rattle.std.specs.List.{AllByRecursion}
use Rattle.acc_stamp.specs.declared.actors.Actor.{Actor}
use Rattle.acc_ports.specs.declared.disk.Disk.{Ghosts}
use Rattle.acc_message.specs.declared.item.Item.{Item}
use Rattle.acc_message.specs.declared.entry.Event.{Event}
use Rattle.acc_message.specs.declared.entry.Event.TheVariants.{Message as MessageEvent}
use Rattle.acc_message.specs.declared.message.Message.{Message}
use Rattle.acc_message.specs.NodeRules.{Act, Takes}
use Rattle.acc_message.specs.Run.{Cluster, is_node, is_down}
use Rattle.acc_message_code.specs.Weight.{weight_of}
use Rattle.acc_payloads.specs.Items.{downs_in}
use Rattle.acc_payloads.specs.declared.stops.Unsent.{Unsent}
use Rattle.acc_schedule.specs.Actors.{actors}
use Rattle.acc_schedule.specs.Content.{Content}
use Rattle.acc_schedule.specs.declared.plan.Step.{Step}
use Rattle.acc_pasts.specs.Entries.{MayTake}
use Rattle.acc_pasts.specs.Pasts.{IsUntouched}
use Rattle.acc_pasts.specs.Stopped.{AreDifferent, IsSound as IsSoundPast}
use Rattle.acc_schedule_runs.specs.Situations.{Stopped, Situation, whole, stopped_at}
use Rattle.acc_schedule_runs.specs.Moves.{event_in, entry_of, entered, entered_all, is_journalled}
use Rattle.acc_schedule_runs.specs.Schedules.{cluster_of}
use Rattle.acc_schedule_runs.specs.Disks.{Disks, fresh_disks}
use Rattle.acc_actors.specs.declared.slot.Slot.{Slot}
use Rattle.acc_actors.specs.Slots.{SlotStages, SlotStands, IsStrictSlot}
use Rattle.acc_actors.specs.Asked.{over_disks, IsFewBehind, AreSteps, HasSettled, HasSettledStrictly}
use Rattle.acc_free_laws.specs.Commands.{commands_of, is_message}
use Rattle.acc_free_laws.specs.FreeRun.{alone}
use Rattle.acc_free_laws.specs.Serving.{IsServing, HasGone, AreStopsOf}
use Rattle.acc_message_index.specs.declared.posting.Post.{Post}
use Rattle.acc_tape.specs.Seats.{TapeName}
use Rattle.acc_desk.specs.declared.hold.Hold.{Hold}
use Rattle.acc_desk.specs.declared.desk.Desk.{Desk}
use Rattle.acc_desk.specs.Desks.{newest, item_of, IsSeated, IsDesk, MayStep, DeskRun, run_with, DeskState, desk_with, state_of}

-- ---- what is staged

-- a message that joins a group
pub record Joining : Type 0 where
  pub event : Event
  pub act : Act

abbrev pub events_of : List Joining → List Event
events_of joinings = map (λ (j : Joining). j.event) joinings

-- The actor in the slot, before it took any of these messages: it is up, and may take each of them.
pub record IsReady {D : Type 0} (port : Ghosts D) (plan : Content) (s : Situation) (a : Actor) (joinings : List Joining) (slot : Slot D) : Type 0 where
  pub sound : IsSoundPast (cluster_of plan) s
  pub few : IsFewBehind s (events_of joinings)
  pub stands : SlotStands port plan s a slot
  pub up : is_down a (whole s) ≡ false
  pub each : AllByRecursion (λ (j : Joining). MayTake (cluster_of plan) (whole s) a (event_in s j.event) j.act × (is_journalled a j.event ≡ true)) joinings

-- The first of the weights are those of the entries of the events, each after the entries of those before it.
abbrev pub AreWeighed : Cluster → Situation → Actor → List Event → List ℕ → Type 0
AreWeighed cluster s a [] weights = Unit {0}
AreWeighed cluster s a (event ∷ events) [] = ⊥
AreWeighed cluster s a (event ∷ events) (weight ∷ weights) =
    (weight ≡ weight_of (entry_of cluster s a event false)) × AreWeighed cluster (entered cluster s a event false) a events weights

-- The second slot is the first one with these messages staged, in whatever situation they may be taken.
pub record HasStaged {D : Type 0} (port : Ghosts D) (plan : Content) (a : Actor) (first slot : Slot D) (joinings : List Joining) (weights : List ℕ) : Type 0 where
  pub stages : (s : Situation) → IsReady port plan s a joinings first → SlotStages port plan s a (events_of joinings) slot
  pub weighed : (s : Situation) → IsReady port plan s a joinings first → AreWeighed (cluster_of plan) s a (events_of joinings) weights
  pub strictly : (s : Situation) (disks : Disks) → IsStrictSlot port plan s disks a first → IsStrictSlot port plan s disks a slot

-- It settled what was staged, in whatever situation they may be taken.
abbrev pub Settles : {D : Type 0} → Ghosts D → Content → Actor → Slot D → List Joining → Slot D → Option (List Unsent) → Type 0
Settles port plan a first joinings slot given =
    (s : Situation) → IsReady port plan s a joinings first → HasSettled port plan s a (events_of joinings) slot given

abbrev pub SettlesStrictly : {D : Type 0} → Ghosts D → Content → Actor → Slot D → List Joining → Slot D → Option (List Unsent) → Type 0
SettlesStrictly port plan a first joinings slot given =
    (s : Situation) (disks : Disks) → IsReady port plan s a joinings first → IsStrictSlot port plan s disks a first
    → HasSettledStrictly port plan (over_disks s disks) a (events_of joinings) slot given

-- after the items the store may take the message, whatever commands are left
pub record CanJoin (plan : Content) (items : List Item) (a : Actor) (left : List Step) (j : Joining) : Type 0 where
  pub may : MayStep plan items a j.event j.act left left
  pub message : is_message j.event ≡ true
  pub journalled : is_journalled a j.event ≡ true

-- each can be entered, whatever others enter before, and no message is there twice
pub record CanAllJoin (plan : Content) (items : List Item) (a : Actor) (left : List Step) (joinings : List Joining) : Type 0 where
  pub each : AllByRecursion (CanJoin plan items a left) joinings
  pub different : AreDifferent (events_of joinings)
  pub few : length joinings ≤ 16

-- What a desk gathered: the slot in which its actor stood before, the messages that joined, what is entered for them weighs, and what is
-- reserved for it.
pub record Gathered (D : Type 0) : Type 0 where
  pub first : Slot D
  pub joinings : List Joining
  pub used : ℕ
  pub held : Hold

abbrev pub gathered : {D : Type 0} → Slot D → List Joining → ℕ → Hold → Gathered D
gathered first joinings used held = record { first = first; joinings = joinings; used = used; held = held }

-- The desk of an actor that stood in the first slot, with these messages staged. What is entered for them weighs so much, which is within what
-- the desk holds.
pub record IsGathering {D : Type 0} (port : Ghosts D) (run : DeskRun) (at : DeskState D) (g : Gathered D) : Type 0 where
  pub kind : is_node at.actor ≡ false
  pub desk : IsDesk port run g.held (desk_with at.actor at.seat g.first at.commands at.gone)
  pub up : is_down at.actor (newest at.seat) ≡ false
  pub joined : CanAllJoin run.plan (newest at.seat) at.actor (drop at.gone at.commands) g.joinings
  pub weights : List ℕ
  pub long : length weights ≡ length g.joinings
  pub staged : HasStaged port run.plan at.actor g.first at.slot g.joinings weights
  pub used_is : sum weights ≡ g.used
  pub within : g.used ≤ g.held.weight
  pub few : length g.joinings ≤ g.held.items

-- One message more can join, if it weighs no more than is left: it is none of them, and they are fewer than the desk holds items.
pub record CanGather {D : Type 0} (port : Ghosts D) (run : DeskRun) (at : DeskState D) (g : Gathered D) (j : Joining) : Type 0 where
  pub gathering : IsGathering port run at g
  pub can : CanJoin run.plan (newest at.seat) at.actor (drop at.gone at.commands) j
  pub another : AllByRecursion (λ (other : Event). other ≢ j.event) (events_of g.joinings)
  pub few : length g.joinings < 16
  pub more : length g.joinings < g.held.items

-- a message joins by being taken
abbrev pub joining : ℕ → Message → Joining
joining number message = record { event = MessageEvent number; act = Takes message }

-- one that was found
abbrev pub joining_of : Post × Message → Joining
joining_of found = joining found.0.number found.1

abbrev pub Gathers : {D J : Type 0} → Ghosts D → Bool → Content → TapeName → Desk D J → Gathered D → Type 0
Gathers port strict_run plan tape desk g =
    IsGathering port (run_with strict_run plan tape) (state_of desk) g

-- and one message more can join
abbrev pub GathersMore : {D J : Type 0} → Ghosts D → Bool → Content → TapeName → Desk D J → Gathered D → Joining → Type 0
GathersMore port strict_run plan tape desk g j =
    CanGather port (run_with strict_run plan tape) (state_of desk) g j

-- The disk failed when what was staged was settled: the desk of the actor, which stood in the first slot before and is down now.
pub record IsStopping {D : Type 0} (port : Ghosts D) (run : DeskRun) (at : DeskState D) (first : Slot D) (joinings : List Joining) (held : Hold) : Type 0 where
  pub desk : IsDesk port run held (desk_with at.actor at.seat first at.commands at.gone)
  pub up : is_down at.actor (newest at.seat) ≡ false
  pub joined : CanAllJoin run.plan (newest at.seat) at.actor (drop at.gone at.commands) joinings
  pub settles : Settles port run.plan at.actor first joinings at.slot None
  pub strictly : SettlesStrictly port run.plan at.actor first joinings at.slot None
  pub some : 0 < held.items

-- ---- what is entered

-- a message that a store may take after the items, whatever commands are left
pub record MayJoin (plan : Content) (items : List Item) (a : Actor) (left : List Step) (event : Event) : Type 0 where
  pub act : Act
  pub may : MayStep plan items a event act left left
  pub message : is_message event ≡ true

pub record AreJoined (plan : Content) (items : List Item) (a : Actor) (left : List Step) (events : List Event) : Type 0 where
  pub each : AllByRecursion (MayJoin plan items a left) events
  pub different : AreDifferent events

-- what an actor settled and has still to enter, with the weights of its items, and the commands that are left
pub record ToEnter : Type 0 where
  pub left : List Step
  pub events : List Event
  pub unsent : List Unsent
  pub weights : List ℕ

abbrev pub to_enter : List Step → List Event → List Unsent → List ℕ → ToEnter
to_enter left events unsent weights = record { left = left; events = events; unsent = unsent; weights = weights }

-- The actor settled the messages of the events, of which these are still to be entered. Its slot stands after all of them, as they come
-- after what it had done, which others' items don't change.
pub record IsEntering {D : Type 0} (port : Ghosts D) (strict_run : Bool) (plan : Content) (a : Actor) (items : List Item) (slot : Slot D) (due : ToEnter) : Type 0 where
  pub stopped : List Stopped
  pub before : List Item
  pub untouched : IsUntouched (cluster_of plan) before items a
  pub none : stopped_at a stopped ≡ []
  pub stands : SlotStands port plan (entered_all (cluster_of plan) (alone before stopped) a due.events false) a slot
  pub steps : AreSteps (cluster_of plan) (alone before stopped) a due.events false due.unsent
  pub weighed : AreWeighed (cluster_of plan) (alone before stopped) a due.events due.weights
  pub could : AllByRecursion (λ (event : Event). (act : Act) × MayTake (cluster_of plan) before a event act × MayTake (cluster_of plan) items a event act) due.events
  pub joined : AreJoined plan items a due.left due.events
  pub serving : IsServing plan (alone items stopped)
  pub stops : AreStopsOf a stopped
  pub gone : HasGone plan (alone items stopped) a due.left
  pub stayed : strict_run ≡ true → IsStrictSlot port plan (entered_all (cluster_of plan) (alone before stopped) a due.events false) fresh_disks a slot × (stopped ≡ []) × (downs_in a items ≡ 0)

-- the item of what is unsent
abbrev pub item_of_unsent : Actor → Unsent → Item
item_of_unsent a one = item_of a one.event (Some one.emitted)

-- the desk of such an actor, which holds enough for what is still to be entered, sixteen items at most
pub record IsEnteringDesk {D : Type 0} (port : Ghosts D) (run : DeskRun) (held : Hold) (desk : DeskState D) (events : List Event) (unsent : List Unsent) : Type 0 where
  pub known : Contains (actors run.plan.topology) desk.actor
  pub all : desk.commands ≡ commands_of run.plan desk.actor
  pub seated : IsSeated run.tape desk.actor held desk.seat
  pub weights : List ℕ
  pub entering : IsEntering port run.strict_run run.plan desk.actor (newest desk.seat) desk.slot (to_enter (drop desk.gone desk.commands) events unsent weights)
  pub light : sum weights ≤ held.weight
  pub few : length unsent ≤ held.items
  pub most : length unsent ≤ 16
