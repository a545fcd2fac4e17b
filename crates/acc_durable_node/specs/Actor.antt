-- When a node with its disk stands for its past.
--     StandsFor images layout name past actor      the actor has this name and this past
--     IsStrictAt ..      it does over a strict disk, on which this call is armed
use Rattle.std.specs.Prelude.{◌≡◌, ℕ, Bool, true, false, IsTrue, List, [], ◌∷◌, ◌++◌, Option, None, Some, IfSome, is_none, Result, Ok, Err, IfOk, OnErr, IsErr}
use Rattle.acc_stamp.specs.declared.stamps.TxnId.{TxnId}
use Rattle.acc_base.specs.declared.memory.OutOfMemory.{OutOfMemory}
use Rattle.acc_topology.specs.Layout.{Layout}
use Rattle.acc_txn.specs.declared.parts.BodyParts.{BodyParts}
use Rattle.acc_ports.specs.Disk.{CrashLeaves}
use Rattle.acc_ports.specs.Faults.{CountsFaults}
use Rattle.acc_ports.specs.declared.disk.Disk.{Ghosts}
use Rattle.acc_message.specs.declared.entry.Event.{Event}
use Rattle.acc_message.specs.declared.entry.Event.TheVariants.{Begin as BeginEvent, Recover as RecoverEvent}
use Rattle.acc_message.specs.declared.entry.Emitted.{Emitted}
use Rattle.acc_message.specs.NodeRules.{Act, Begins, Recovers, Slows, Restarts, clock_of}
use Rattle.acc_node.specs.declared.node.Node.{Node}
use Rattle.acc_node.specs.Stands.{is_first_voting, has_majority}
use Rattle.acc_payloads.specs.declared.draw.Purpose.{Purpose}
use Rattle.acc_payloads.specs.declared.draw.Purpose.TheVariants.{Begin, Recover}
use Rattle.acc_payloads.specs.Spelling.{draw_bytes}
use Rattle.acc_payloads.specs.Acts.{next_draw_of, MayDraw}
use Rattle.acc_payloads.specs.Items.{without_marks}
use Rattle.acc_payloads.specs.Appends.{fails_append, after_append, passed_in}
use Rattle.acc_journal.specs.Journal.{keeps_group}
use Rattle.acc_durable_node.specs.declared.name.NodeName.{NodeName}
use Rattle.acc_durable_node.specs.declared.node.DurableNode.{DurableNode}
use Rattle.acc_durable_node.specs.declared.error.DurableError.{DurableError}
use Rattle.acc_durable_node.specs.declared.error.DurableError.TheVariants.{Begun, DiskFault}
use Rattle.acc_durable_node.specs.declared.error.DurableError.TheVariants as errors
use Rattle.acc_durable_node.specs.Names.{deeds_by, emits_by, id_begun, attempt_by}
use Rattle.acc_durable_node.specs.Node as durable
use Rattle.acc_payloads.specs.declared.stops.Restarted.{Restarted}
use Rattle.acc_payloads.specs.declared.stops.Restarted.TheVariants.{Up, Down}
use Rattle.acc_durable_node.specs.declared.state.NodeState.{NodeState}
use Rattle.acc_durable_node.specs.declared.state.NodeState.TheVariants.{Open, Shut}
use Rattle.acc_durable_node.specs.declared.actor.NodeActor.{NodeActor}
use Rattle.acc_payloads.specs.Stops.{Stop, Past, count_of, after_step, with_act, kept_if, past_with, IsLeft, ReadsIf, IsUnsent, IsKept}

-- ---- the state

abbrev pub disk_in : {D : Type 0} → NodeState D → D
disk_in (Open n) = n.journal.disk
disk_in (Shut disk) = disk

abbrev pub disk_of : {D : Type 0} → NodeActor D → D
disk_of actor = disk_in actor.state

-- the node over the disk, where the state isn't Shut: also one that its disk's fault took down
abbrev pub node_in : {D : Type 0} → NodeState D → Option Node
node_in (Open n) = Some n.node
node_in (Shut disk) = None

abbrev pub is_shut : {D : Type 0} → NodeState D → Bool
is_shut (Open n) = n.journal.broken
is_shut (Shut disk) = true

abbrev pub is_down : {D : Type 0} → NodeActor D → Bool
is_down actor = is_shut actor.state

-- ---- what the rules give

abbrev pub emits_next : Layout → NodeName → Past Act → Act → Emitted
emits_next layout name past act = emits_by layout name past.acts act

abbrev pub draw_payload : Layout → NodeName → Past Act → Purpose → ℕ → List ℕ
draw_payload layout name past purpose txn =
    draw_bytes (next_draw_of (clock_of name.number name.start (deeds_by layout name past.acts)) purpose txn)

-- a begin and a recover, as a fault stops them
abbrev pub begin_stop : Layout → ℕ → BodyParts → NodeName → Past Act → Stop Act
begin_stop layout txn body name past =
    record { event = BeginEvent txn; act = Begins txn body; payload = draw_payload layout name past Begin txn }

abbrev pub recover_stop : Layout → ℕ → TxnId → BodyParts → NodeName → Past Act → Stop Act
recover_stop layout txn id body name past =
    record { event = RecoverEvent txn; act = Recovers id body; payload = draw_payload layout name past Recover txn }

-- ---- the past

abbrev pub IsJournal : Layout → NodeName → List (List ℕ) → List Act → Type 0
IsJournal layout name payloads acts = durable.IsJournalAfter layout name payloads acts

-- the durable node of an actor that is up
pub record IsUp {D : Type 0} (layout : Layout) (name : NodeName) (past : Past Act) (n : DurableNode D) : Type 0 where
  pub stands : durable.StandsFor layout n past.acts
  pub name_is : n.name ≡ name
  pub held_are : without_marks n.journal.payloads ≡ past.held
  pub none_stopped : past.stopped ≡ []

abbrev pub IsUpIn : {D : Type 0} → Layout → NodeName → Past Act → NodeState D → Type 0
IsUpIn layout name past (Open n) = IsUp layout name past n
IsUpIn layout name past (Shut disk) = ⊥

pub record StandsFor {D : Type 0} (port : Ghosts D) (layout : Layout) (name : NodeName) (past : Past Act) (actor : NodeActor D) : Type 0 where
  pub name_is : actor.named.name ≡ name
  pub left : (image : List ℕ) → port.is_image (disk_of actor) image → IsLeft (IsJournal layout name) past image
  pub unsent : IsUnsent (emits_next layout name) past past.stopped actor.stopped.items
  pub up : is_down actor ≡ false → IsUpIn layout name past actor.state
  pub kept_is : is_down actor ≡ true → actor.kept ≡ count_of past

abbrev pub NodeJournals : Type 1
NodeJournals = List (List ℕ) → List Act → Type 0

-- each image of the disk reads as the past, with what was stopped or without
abbrev pub AreLeft : {D : Type 0} → Ghosts D → D → NodeJournals → Past Act → Type 0
AreLeft port disk IsOne past = (image : List ℕ) → port.is_image disk image → IsLeft IsOne past image

-- and so does what a crash in the way of this choice leaves there: with it, or without
abbrev pub AreLeftByChoice : {D : Type 0} → Ghosts D → D → ℕ → NodeJournals → Past Act → Bool → Type 0
AreLeftByChoice port disk choice IsOne past keeps =
    (bytes : List ℕ) → port.is_image disk bytes → CrashLeaves choice (port.state disk) bytes → ReadsIf IsOne past keeps bytes

-- how many faults the disk has counted
abbrev pub faults_of : {D : Type 0} → Ghosts D → NodeActor D → ℕ
faults_of port actor = (port.state (disk_of actor)).faults

-- a fact of each past that it stands for
abbrev pub OfEachPast : {D : Type 0} → Ghosts D → Layout → NodeActor D → (NodeName → Past Act → Type 0) → Type 0
OfEachPast port layout actor P = (name : NodeName) (past : Past Act) → StandsFor port layout name past actor → P name past

-- it stands for what it stood for
abbrev pub IsAsBefore : {D : Type 0} → Ghosts D → Layout → NodeActor D → NodeActor D → Type 0
IsAsBefore port layout old new = OfEachPast port layout old (λ name past. StandsFor port layout name past new)

-- ---- what calls need

-- it may draw
pub record MayRecover {D : Type 0} (port : Ghosts D) (layout : Layout) (actor : NodeActor D) : Type 0 where
  pub name : NodeName
  pub past : Past Act
  pub stands : StandsFor port layout name past actor
  pub low : MayDraw name.number name.start (deeds_by layout name past.acts)

-- it may draw, and hasn't begun the transaction
pub record MayBegin {D : Type 0} (port : Ghosts D) (layout : Layout) (actor : NodeActor D) (txn : ℕ) : Type 0 where
  pub name : NodeName
  pub past : Past Act
  pub stands : StandsFor port layout name past actor
  pub low : MayDraw name.number name.start (deeds_by layout name past.acts)
  pub fresh : id_begun layout name txn past.acts ≡ None

-- ---- what calls leave

-- A step that is journalled: what is given is what the rules say, and the actor has then taken it, or a fault has stopped it.
pub record Steps {D : Type 0} (port : Ghosts D) (layout : Layout) (name : NodeName) (past : Past Act) (stop : Stop Act) (new : NodeActor D) (given : Option Emitted) : Type 0 where
  pub emits : IfSome given (λ emitted. emitted ≡ emits_next layout name past stop.act)
  pub stands : StandsFor port layout name (after_step given past stop) new

-- it gives what the rules say, and has then taken the act, which isn't journalled
pub record Takes {D : Type 0} (port : Ghosts D) (layout : Layout) (name : NodeName) (past : Past Act) (act : Act) (new : NodeActor D) (emitted : Emitted) : Type 0 where
  pub emits : emitted ≡ emits_next layout name past act
  pub stands : StandsFor port layout name (with_act act past) new

-- it gives the fast path of the first attempt at a transaction up that it has begun
pub record HasSlowed {D : Type 0} (port : Ghosts D) (layout : Layout) (name : NodeName) (past : Past Act) (txn : ℕ) (new : NodeActor D) (emitted : Emitted) : Type 0 where
  pub id : TxnId
  pub begun : id_begun layout name txn past.acts ≡ Some id
  pub waits : is_first_voting (attempt_by layout name id past.acts) ≡ true
  pub majority : has_majority layout id (attempt_by layout name id past.acts) ≡ true
  pub takes : Takes port layout name past (Slows id) new emitted

-- Restarted: the journal has more payloads than were held, or not; or the disk failed.
abbrev pub past_found : Option Bool → Past Act → Past Act
past_found (Some more) past = with_act Restarts (kept_if more past)
past_found None past = past

pub record IsFound {D : Type 0} (port : Ghosts D) (layout : Layout) (name : NodeName) (past : Past Act) (found : Option Bool) (state : NodeState D) : Type 0 where
  pub left : (image : List ℕ) → port.is_image (disk_in state) image → IsLeft (IsJournal layout name) (past_found found past) image
  pub up : is_shut state ≡ false → IsUpIn layout name (past_found found past) state

-- with what was kept; or down as before
abbrev pub past_after : Restarted → Past Act → Past Act
past_after (Up kept) past = with_act Restarts (past_with kept past)
past_after Down past = past

abbrev pub KeptIn : Layout → NodeName → Past Act → Restarted → Type 0
KeptIn layout name past (Up kept) = IsKept (emits_next layout name) past kept
KeptIn layout name past Down = Unit {0}

-- a durable node answered a step that began with so many draws in the journal
abbrev pub IsSettled : {D : Type 0} → Event → ℕ → Result Emitted DurableError → NodeActor D → NodeActor D → Result (Option Emitted) OutOfMemory → Type 0
IsSettled event kept (Ok emitted) old new result = (result ≡ Ok (Some emitted)) × (new ≡ old)
IsSettled event kept (Err Begun) old new result = IsErr result × (new ≡ old)
IsSettled event kept (Err (DiskFault unsent)) old new result =
    (result ≡ Ok None) × (new ≡ record old { stopped = new.stopped; kept = kept })
    × (new.stopped.items ≡ old.stopped.items ++ record { event = event; emitted = unsent } ∷ [])
IsSettled event kept (Err errors.OutOfMemory) old new result = IsErr result × (new ≡ old)

-- ---- strict disks

-- The disk is strict. Where the actor is up, this call is armed; where it is down, so many calls of the append that failed passed, and
-- what a crash by choice leaves follows from that.
pub record IsStrictAt {D : Type 0} (port : Ghosts D) (layout : Layout) (name : NodeName) (armed passed : Option ℕ) (past : Past Act) (actor : NodeActor D) : Type 0 where
  pub is_strict : IsTrue (port.state (disk_of actor)).strict
  pub armed_is : is_down actor ≡ false → (port.state (disk_of actor)).armed ≡ armed
  pub left : is_down actor ≡ true → (choice : ℕ) (bytes : List ℕ) → CrashLeaves choice (port.state (disk_of actor)) bytes
      → ReadsIf (IsJournal layout name) past (keeps_group passed choice) bytes

-- Its disk is strict as it was, whatever its past is now.
abbrev pub IsAsStrict : {D : Type 0} → Ghosts D → Layout → NodeActor D → NodeActor D → Type 0
IsAsStrict port layout old new =
    (name : NodeName) (armed passed : Option ℕ) (past other : Past Act) → IsStrictAt port layout name armed passed past old
    → IsStrictAt port layout name armed passed other new

-- ---- a step that is journalled

-- what an actor that is up leaves and tells, which tries one
pub record HasStepped {D : Type 0} (port : Ghosts D) (layout : Layout) (old new : NodeActor D) (stop : NodeName → Past Act → Stop Act) (result : Result (Option Emitted) OutOfMemory) : Type 0 where
  pub ok : IfOk result (λ given. OfEachPast port layout old (λ name past. Steps port layout name past (stop name past) new given))
  pub down : IfOk result (λ given. is_down new ≡ is_none given)
  pub faults : CountsFaults (result ≡ Ok None) (port.state (disk_of old)).faults (port.state (disk_of new)).faults
  -- where memory was refused, its journal broke and it is down, or all is as before
  pub refused : OnErr result (is_down new ≡ false → IsAsBefore port layout old new × (disk_of new ≡ disk_of old))
  -- a strict disk fails just where its armed call is one of the append
  pub strict : (name : NodeName) (armed passed : Option ℕ) (past : Past Act) → StandsFor port layout name past old → IsStrictAt port layout name armed passed past old
      → IfOk result (λ given. (is_none given ≡ fails_append armed)
      × IsStrictAt port layout name (after_append armed) (passed_in armed) (after_step given past (stop name past)) new)
