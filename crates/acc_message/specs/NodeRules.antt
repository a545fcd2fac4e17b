-- The rules of a node: its clock, its attempts and its clients, as functions of what it did, the newest first.
use Rattle.std.specs.Prelude.{ℕ, Bool, true, false, not, cond, ◌==◌, ◌&&◌, ◌||◌, List, [], ◌∷◌, ◌++◌, Option, None, Some}
use Rattle.std.specs.List.{list_any, flat_map}
use Rattle.acc_stamp.specs.declared.stamps.Stamp.{Stamp}
use Rattle.acc_stamp.specs.declared.stamps.TxnId.{TxnId}
use Rattle.acc_stamp.specs.declared.stamps.Ballot.{Ballot}
use Rattle.acc_stamp.specs.declared.actors.Actor.{Actor}
use Rattle.acc_stamp.specs.Actor.{actor_of}
use Rattle.acc_stamp.specs.Stamp.{id_eq}
use Rattle.acc_stamp.specs.Clock.{ClockState, next_stamp}
use Rattle.acc_stamp.specs.History.{ClockEvent, Draw, See, Restart as ClockRestart, clock_after}
use Rattle.acc_topology.specs.Layout.{Layout}
use Rattle.acc_txn.specs.declared.parts.BodyParts.{BodyParts}
use Rattle.acc_message.specs.declared.message.Message.{Message}
use Rattle.acc_message.specs.declared.message.Message.TheVariants.{PreAccept, PreAcceptOk, Accept, AcceptOk, Commit, CommitOk, Stable, ReadOk, Apply, Recover, RecoverOk, Nack, Decided, Inform}
use Rattle.acc_message.specs.declared.note.Note.{Note}
use Rattle.acc_message.specs.declared.note.Note.TheVariants.{Begin as BeginNote, Recover as RecoverNote, Blocked, Ended, Decide, Outcome as OutcomeNote, Reply as ReplyNote}
use Rattle.acc_message.specs.declared.entry.Emitted.{Emitted}
use Rattle.acc_message.specs.Fields.{id_of, top_of}
use Rattle.acc_base.specs.Faults.{or_else}
use Rattle.acc_message.specs.Items.{begins, replies}
use Rattle.acc_message.specs.Attempts.{Attempt}
use Rattle.acc_message.specs.Coordinator.{silence, Reaction, begun, ask_for_votes, recovering, ask_for_views, reaction, slow_reaction}

-- What an actor takes in a step: an event, with what its numbers stand for.
pub data Act : Type 0 where
  Begins : ℕ → BodyParts → Act
  Recovers : TxnId → BodyParts → Act
  Slows : TxnId → Act
  Takes : Message → Act
  Restarts : Act

-- one step of an actor, with what it emitted then
pub record Deed : Type 0 where
  pub act : Act
  pub emitted : Emitted

-- ---- the clock

-- a begin and a recover draw, each message is seen, and a restart forgets what was seen
abbrev pub clock_events_of : Act → List ClockEvent
clock_events_of (Begins txn body) = Draw ∷ []
clock_events_of (Recovers x body) = Draw ∷ []
clock_events_of (Slows x) = []
clock_events_of (Takes m) = See (top_of m) ∷ []
clock_events_of Restarts = ClockRestart ∷ []

abbrev pub clock_events : List Deed → List ClockEvent
clock_events past = flat_map (λ (deed : Deed). clock_events_of deed.act) past

abbrev pub clock_of : ℕ → ℕ → List Deed → ClockState
clock_of node start past = clock_after node start (clock_events past)

-- what the node draws next
abbrev pub next_draw : ℕ → ℕ → List Deed → Stamp
next_draw node start past = next_stamp (clock_of node start past)

abbrev pub next_id : ℕ → ℕ → List Deed → TxnId
next_id node start past = record { 0 = next_draw node start past }

abbrev pub next_ballot : ℕ → ℕ → List Deed → Ballot
next_ballot node start past = record { 0 = next_draw node start past }

-- ---- the begun transactions, and their clients

abbrev pub id_if_begun : ℕ → ℕ → ℕ → List Deed → Act → Option TxnId
id_if_begun node start number past (Begins txn body) = cond (txn == number) (Some (next_id node start past)) None
id_if_begun node start number past _ = None

-- the id of the transaction with this number, where the node has begun it
abbrev pub begun_id : ℕ → ℕ → ℕ → List Deed → Option TxnId
begun_id node start number [] = None
begun_id node start number (deed ∷ past) =
    or_else (begun_id node start number past) (id_if_begun node start number past deed.act)

abbrev pub is_restart : Act → Bool
is_restart Restarts = true
is_restart _ = false

-- the begin opens the client of x; its reply closes it, and so does a restart
abbrev pub is_open : TxnId → List Deed → Bool
is_open x [] = false
is_open x (deed ∷ past) =
    not (is_restart deed.act) && not (list_any (replies x) deed.emitted.notes)
    && (list_any (begins x) deed.emitted.notes || is_open x past)

-- ---- the attempts

abbrev pub next_by : (Attempt → Reaction) → Option Attempt → Option Attempt
next_by react None = None
next_by react (Some a) = (react a).next

abbrev pub where_about : Bool → (Option Attempt → Option Attempt) → Option Attempt → Option Attempt
where_about true next before = next before
where_about false next before = before

abbrev pub attempt_after : Layout → ℕ → ℕ → TxnId → List Deed → Option Attempt → Act → Option Attempt
attempt_after layout node start x past before (Begins txn body) =
    cond (id_eq (next_id node start past) x) (Some (begun body)) before
attempt_after layout node start x past before (Recovers y body) =
    cond (id_eq y x) (Some (recovering (next_ballot node start past) body)) before
attempt_after layout node start x past before (Slows y) =
    where_about (id_eq y x) (next_by (slow_reaction layout (actor_of node 0) x)) before
attempt_after layout node start x past before (Takes m) =
    where_about (id_eq (id_of m) x) (next_by (λ a. reaction layout (actor_of node 0) x a m)) before
attempt_after layout node start x past before Restarts = None

-- the attempt of x: of the last begin or recover of it, where it has not ended since
abbrev pub attempt_of : Layout → ℕ → ℕ → TxnId → List Deed → Option Attempt
attempt_of layout node start x [] = None
attempt_of layout node start x (deed ∷ past) =
    attempt_after layout node start x past (attempt_of layout node start x past) deed.act

-- ---- what a node emits

abbrev pub emitted_by : (Attempt → Reaction) → Option Attempt → Emitted
emitted_by react None = silence
emitted_by react (Some a) = (react a).emitted

-- an outcome has the reply right after it, as long as the client is open
abbrev pub replied : Bool → Note → List Note
replied is_open (OutcomeNote id reply) = OutcomeNote id reply ∷ cond is_open (ReplyNote id reply ∷ []) []
replied is_open note = note ∷ []

abbrev pub with_reply : Bool → Emitted → Emitted
with_reply is_open e = record { notes = flat_map (replied is_open) e.notes; out = e.out }

-- an outcome that another node tells is the reply to an open client; every other message is one for the attempt
abbrev pub on_taking : Layout → ℕ → ℕ → List Deed → Message → Emitted
on_taking layout node start past (Inform from to id ballot outcome) =
    record { notes = cond (is_open id past) (ReplyNote id outcome.reply ∷ []) []; out = [] }
on_taking layout node start past m =
    with_reply (is_open (id_of m) past)
    (emitted_by (λ a. reaction layout (actor_of node 0) (id_of m) a m) (attempt_of layout node start (id_of m) past))

-- what a node with this past emits
abbrev pub node_emits : Layout → ℕ → ℕ → List Deed → Act → Emitted
node_emits layout node start past (Begins txn body) =
    let x : TxnId = next_id node start past in
    record { notes = BeginNote x ∷ []; out = ask_for_votes layout (actor_of node 0) x body }
node_emits layout node start past (Recovers x body) =
    let b : Ballot = next_ballot node start past in
    record { notes = RecoverNote x b ∷ []; out = ask_for_views layout (actor_of node 0) x b body }
node_emits layout node start past (Slows x) =
    emitted_by (slow_reaction layout (actor_of node 0) x) (attempt_of layout node start x past)
node_emits layout node start past (Takes m) = on_taking layout node start past m
node_emits layout node start past Restarts = silence

-- what a node did that took these, the newest first
abbrev pub node_replay : Layout → ℕ → ℕ → List Act → List Deed
node_replay layout node start [] = []
node_replay layout node start (act ∷ acts) =
    let past : List Deed = node_replay layout node start acts in
    record { act = act; emitted = node_emits layout node start past act } ∷ past
