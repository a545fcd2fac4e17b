-- When a desk is sound, and what it may take.
use Rattle.std.specs.Prelude.{◌≡◌, ◌≢◌, ◌⊎◌, ℕ, ◌+◌, ◌≤◌, Bool, true, false, List, [], ◌∷◌, length, map, reverse, sum_by, drop, All, Option, None, Some, Result, MatchResult, Contains}
use Rattle.std.specs.List.{slice_get}
use Rattle.acc_base.specs.declared.memory.OutOfMemory.{OutOfMemory}
use Rattle.acc_stamp.specs.declared.stamps.TxnId.{TxnId}
use Rattle.acc_stamp.specs.declared.actors.Actor.{Actor}
use Rattle.acc_ports.specs.declared.disk.Disk.{Ghosts}
use Rattle.acc_message.specs.declared.item.Item.{Item}
use Rattle.acc_message.specs.declared.item.Item.TheVariants.{Step as StepItem, Down}
use Rattle.acc_message.specs.declared.entry.Event.{Event}
use Rattle.acc_message.specs.declared.entry.Emitted.{Emitted}
use Rattle.acc_message.specs.Items.{begins_txn, id_begun}
use Rattle.acc_message.specs.Coordinator.{silence}
use Rattle.acc_message.specs.NodeRules.{Act}
use Rattle.acc_message.specs.Run.{kept_of, is_down}
use Rattle.acc_message_code.specs.Weight.{weight_of}
use Rattle.acc_payloads.specs.Items.{downs_in}
use Rattle.acc_schedule.specs.Actors.{actors}
use Rattle.acc_schedule.specs.Content.{Content}
use Rattle.acc_schedule.specs.declared.plan.Step.{Step}
use Rattle.acc_pasts.specs.Entries.{MayTake}
use Rattle.acc_schedule_runs.specs.Situations.{Stopped, Situation}
use Rattle.acc_schedule_runs.specs.Moves.{with_item, reopened}
use Rattle.acc_schedule_runs.specs.Schedules.{cluster_of}
use Rattle.acc_schedule_runs.specs.Disks.{Disks, fresh_disks, after_restart}
use Rattle.acc_schedule_runs.specs.Limits.{most_items}
use Rattle.acc_actors.specs.declared.slot.Slot.{Slot}
use Rattle.acc_actors.specs.Slots.{SlotStands, IsStrictSlot, is_down_in}
use Rattle.acc_free_laws.specs.Commands.{commands_of, is_restart, is_event_of, is_message}
use Rattle.acc_free_laws.specs.FreeRun.{is_plain_event, IsUntaken, alone}
use Rattle.acc_free_laws.specs.Serving.{IsServing, HasGone, AreStopsOf}
use Rattle.acc_desk.specs.declared.desk.Desk.{Desk}
use Rattle.acc_desk.specs.declared.hold.Hold.{Hold}
use Rattle.acc_tape.specs.Seats.{TapeName, SeatView}
use Rattle.acc_tape.specs.Lists.{items_of}
use Rattle.acc_tape.specs.ItemViews.{actor_of_item}

-- ---- the seat

-- what the seat has seen, newest first
abbrev pub newest : SeatView Item → List Item
newest seat = reverse seat.seen

-- what a seat holds reserved, and nothing
abbrev pub held_of : SeatView Item → Hold
held_of seat = record { items = seat.held_items; weight = seat.held_weight }

abbrev pub no_hold : Hold
no_hold = record { items = 0; weight = 0 }

-- It is a seat of the tape for the actor, holds so much reserved, and has entered the items of its actor that it has seen. These are
-- within the limits.
pub record IsSeated (tape : TapeName) (a : Actor) (held : Hold) (seat : SeatView Item) : Type 0 where
  pub tape_is : seat.tape ≡ tape
  pub actor_is : seat.actor ≡ a.0
  pub some : seat.actor ≢ 0
  pub held_is : held_of seat ≡ held
  pub mine_is : items_of actor_of_item seat.actor seat.seen ≡ seat.mine
  pub few : length seat.seen ≤ most_items
  pub light : sum_by weight_of seat.seen ≤ tape.limits.weight

-- ---- the actor

-- Its disk is strict and nothing is armed on it; so the actor never went down, and no step of it was stopped.
pub record HasStayed {D : Type 0} (port : Ghosts D) (plan : Content) (s : Situation) (a : Actor) (slot : Slot D) : Type 0 where
  pub unarmed : IsStrictSlot port plan s fresh_disks a slot
  pub none : s.stopped ≡ []
  pub up : downs_in a s.own ≡ 0

-- The actor stands in its slot for what the items have of it, which are a free run. Of its commands these are left, and the steps that
-- its disk stopped are its own. Where all disks of the run are strict, it stayed up.
pub record IsAt {D : Type 0} (port : Ghosts D) (strict_run : Bool) (plan : Content) (a : Actor) (items : List Item) (slot : Slot D) (left : List Step) : Type 0 where
  pub stopped : List Stopped
  pub stands : SlotStands port plan (alone items stopped) a slot
  pub serving : IsServing plan (alone items stopped)
  pub stops : AreStopsOf a stopped
  pub gone : HasGone plan (alone items stopped) a left
  pub stayed : strict_run ≡ true → HasStayed port plan (alone items stopped) a slot

-- what the desks of a run share: whether all its disks are strict, its plan and its tape
pub record DeskRun : Type 0 where
  pub strict_run : Bool
  pub plan : Content
  pub tape : TapeName

abbrev pub run_with : Bool → Content → TapeName → DeskRun
run_with strict_run plan tape = record { strict_run = strict_run; plan = plan; tape = tape }

-- a desk, without the counts of which nothing is said
pub record DeskState (D : Type 0) : Type 0 where
  pub actor : Actor
  pub seat : SeatView Item
  pub slot : Slot D
  pub commands : List Step
  pub gone : ℕ

abbrev pub desk_with : {D : Type 0} → Actor → SeatView Item → Slot D → List Step → ℕ → DeskState D
desk_with a seat slot commands gone = record { actor = a; seat = seat; slot = slot; commands = commands; gone = gone }

-- The desk of an actor of the plan that holds so much reserved: so many of its commands went by.
pub record IsDesk {D : Type 0} (port : Ghosts D) (run : DeskRun) (held : Hold) (desk : DeskState D) : Type 0 where
  pub known : Contains (actors run.plan.topology) desk.actor
  pub all : desk.commands ≡ commands_of run.plan desk.actor
  pub seated : IsSeated run.tape desk.actor held desk.seat
  pub at : IsAt port run.strict_run run.plan desk.actor (newest desk.seat) desk.slot (drop desk.gone desk.commands)

-- The seat belongs to the tape, and holds nothing that is reserved; and its actor stands for what it has seen.
abbrev pub IsSound : {D : Type 0} → Ghosts D → DeskRun → DeskState D → Type 0
IsSound port run desk = IsDesk port run no_hold desk

-- ---- what may be taken

-- the event is that of a message, or of the next command
abbrev pub IsTurn : Event → List Step → List Step → Type 0
IsTurn event left later =
    ((is_message event ≡ true) × (later ≡ left))
    ⊎ ((command : Step) × (left ≡ command ∷ later) × (is_event_of command event ≡ true) × (is_restart command ≡ false))

-- after the items the actor, which is up, may take the event, and these commands are left later
pub record MayStep (plan : Content) (items : List Item) (a : Actor) (event : Event) (act : Act) (left later : List Step) : Type 0 where
  pub up : is_down a items ≡ false
  pub may : MayTake (cluster_of plan) items a event act
  pub plain : is_plain_event event ≡ true
  pub kept : kept_of event ≡ 0
  pub untaken : IsUntaken items event
  pub turn : IsTurn event left later

-- the item begins the transaction, and drew this id
abbrev pub BeginsAs : ℕ → TxnId → Item → Type 0
BeginsAs txn id item = (begins_txn txn item ≡ true) × (id_begun txn item ≡ Some id)

-- It opened its disk again and kept nothing, or its disk failed.
abbrev pub HasReopened : {D : Type 0} → Ghosts D → Content → Situation → Actor → Option Emitted → Slot D → Type 0
HasReopened port plan s a None slot = SlotStands port plan (with_item (Down a) s) a slot
HasReopened port plan s a (Some emitted) slot = (emitted ≡ silence) × SlotStands port plan (reopened (cluster_of plan) s a []) a slot

-- Over a strict disk, where no step was stopped, it opened.
abbrev pub HasReopenedStrictly : {D : Type 0} → Ghosts D → Content → Situation → Disks → Actor → Option Emitted → Slot D → Type 0
HasReopenedStrictly port plan s disks a None slot = ⊥
HasReopenedStrictly port plan s disks a (Some emitted) slot =
    IsStrictSlot port plan (reopened (cluster_of plan) s a []) (after_restart a disks) a slot

-- the item that is entered: what the actor did, or that it went down
abbrev pub item_of : Actor → Event → Option Emitted → Item
item_of a event None = Down a
item_of a event (Some emitted) = StepItem (record { actor = a; event = event; emitted = emitted; lost = false })

abbrev pub state_of : {D J : Type 0} → Desk D J → DeskState D
state_of desk = desk_with desk.actor desk.seat desk.slot desk.commands desk.gone

-- the actor is up, as its seat sees it
abbrev pub IsUp : {D J : Type 0} → Desk D J → Type 0
IsUp desk = is_down desk.actor (newest desk.seat) ≡ false

-- it keeps its actor and its commands
abbrev pub IsSameDesk : {D J : Type 0} → Desk D J → Desk D J → Type 0
IsSameDesk old new = (new.actor ≡ old.actor) × (new.commands ≡ old.commands)

-- and no command goes by
abbrev pub IsAtSameCommand : {D J : Type 0} → Desk D J → Desk D J → Type 0
IsAtSameCommand old new = (new.actor ≡ old.actor) × (new.commands ≡ old.commands) × (new.gone ≡ old.gone)

-- only its slot changes, and the counts of which nothing is said
abbrev pub ChangesSlot : {D J : Type 0} → Desk D J → Desk D J → Type 0
ChangesSlot old new = (new.actor ≡ old.actor) × (new.seat ≡ old.seat) × (new.commands ≡ old.commands) × (new.gone ≡ old.gone) × (new.unsound ≡ old.unsound)

-- only its seat changes, and those counts
abbrev pub ChangesSeat : {D J : Type 0} → Desk D J → Desk D J → Type 0
ChangesSeat old new = (new.actor ≡ old.actor) × (new.slot ≡ old.slot) × (new.commands ≡ old.commands) × (new.gone ≡ old.gone) × (new.unsound ≡ old.unsound)

-- IsSound of a desk
abbrev pub IsSoundDesk : {D J : Type 0} → Ghosts D → Bool → Content → TapeName → Desk D J → Type 0
IsSoundDesk port strict_run plan tape desk = IsSound port (run_with strict_run plan tape) (state_of desk)

-- ---- where memory was refused

-- The desk keeps its seat, which holds nothing reserved, and is sound unless it is marked.
pub record IsSoundOrMarked {D J : Type 0} (port : Ghosts D) (strict_run : Bool) (plan : Content) (tape : TapeName) (desk : Desk D J) : Type 0 where
  pub seated : IsSeated tape desk.actor no_hold desk.seat
  pub sound : desk.unsound ≡ false → IsSoundDesk port strict_run plan tape desk

-- the desk is marked only where it was so before, or where its actor is down in its slot
abbrev pub IsMarkedDown : {D J : Type 0} → Desk D J → Desk D J → Type 0
IsMarkedDown old new = new.unsound ≡ true → (old.unsound ≡ true) ⊎ (is_down_in new.slot ≡ true)

-- the next command of the actor is a restart
abbrev pub IsToRestart : {D J : Type 0} → Desk D J → Type 0
IsToRestart desk = (command : Step) × (drop desk.gone desk.commands ≡ command ∷ drop (desk.gone + 1) desk.commands) × (is_restart command ≡ true)

-- A step leaves the mark as it was. Only where memory was refused may the desk be marked, if its actor is down in its slot.
abbrev pub MarksDown : {D J X : Type 0} → Result X OutOfMemory → Desk D J → Desk D J → Type 0
MarksDown result old new = MatchResult result (λ _. new.unsound ≡ old.unsound) (λ _. IsMarkedDown old new)

-- So does a turn, in which the desk may also be marked where it was to restart its actor.
abbrev pub MarksAtTurn : {D J X : Type 0} → Result X OutOfMemory → Desk D J → Desk D J → Type 0
MarksAtTurn result old new = MatchResult result (λ _. new.unsound ≡ old.unsound) (λ _. IsMarkedDown old new ⊎ IsToRestart new)

-- ---- desks together

abbrev pub AreSound : {D J : Type 0} → Ghosts D → Bool → Content → TapeName → List (Desk D J) → Type 0
AreSound {D} {J} port strict_run plan tape desks = All (λ (desk : Desk D J). IsSoundDesk port strict_run plan tape desk) desks

abbrev pub AreSeated : {D J : Type 0} → TapeName → List (Desk D J) → Type 0
AreSeated {D} {J} tape desks = All (λ (desk : Desk D J). IsSeated tape desk.actor no_hold desk.seat) desks

-- Each desk but one is sound, and that one is sound unless it is marked.
pub record AreSoundButOne {D J : Type 0} (port : Ghosts D) (strict_run : Bool) (plan : Content) (tape : TapeName) (desks : List (Desk D J)) : Type 0 where
  pub one : ℕ
  pub others : (place : ℕ) (desk : Desk D J) → slice_get desks place ≡ Some desk → place ≢ one → IsSoundDesk port strict_run plan tape desk
  pub marked : (desk : Desk D J) → slice_get desks one ≡ Some desk → IsSoundOrMarked port strict_run plan tape desk

-- each desk that is marked was so before, or its actor is down in its slot, or its next command is a restart
abbrev pub AreMarkedDown : {D J : Type 0} → List (Desk D J) → List (Desk D J) → Type 0
AreMarkedDown {D} {J} before after =
    (place : ℕ) (old new : Desk D J) → slice_get before place ≡ Some old → slice_get after place ≡ Some new → IsMarkedDown old new ⊎ IsToRestart new

abbrev pub mark_of : {D J : Type 0} → Desk D J → Bool
mark_of desk = desk.unsound

-- Turns leave the marks as they were. Only where memory was refused may a desk be marked.
abbrev pub MarksAtTurns : {D J X : Type 0} → Result X OutOfMemory → List (Desk D J) → List (Desk D J) → Type 0
MarksAtTurns result before after = MatchResult result (λ _. map mark_of after ≡ map mark_of before) (λ _. AreMarkedDown before after)

-- whose it is, and the commands of its actor
abbrev pub name_of : {D J : Type 0} → Desk D J → Actor × List Step
name_of desk = (desk.actor, desk.commands)
