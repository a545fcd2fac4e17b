-- When a store with its disk stands for its past.
--     IsStaging port layout name past staged actor      the actor has this name and this past, and these steps are staged
--     StandsFor port layout name past actor             the same with nothing staged
--     IsStrictAt ..      it does over a strict disk, on which this call is armed
use Rattle.std.specs.Prelude.{◌≡◌, ℕ, ◌^◌, ◌<◌, ◌≢◌, Bool, true, false, IsTrue, List, [], ◌++◌, Option, None, Some, IfSome, is_none, Result, IfOk}
use Rattle.acc_base.specs.declared.memory.OutOfMemory.{OutOfMemory}
use Rattle.acc_stamp.specs.declared.actors.Actor.{Actor}
use Rattle.acc_topology.specs.Layout.{Layout}
use Rattle.acc_ports.specs.Disk.{CrashLeaves}
use Rattle.acc_ports.specs.declared.disk.Disk.{Ghosts}
use Rattle.acc_message.specs.declared.message.Message.{Message}
use Rattle.acc_message.specs.declared.entry.Event.TheVariants.{Message as MessageEvent}
use Rattle.acc_message.specs.declared.entry.Emitted.{Emitted}
use Rattle.acc_message.specs.StoreRules.{store_answer, replay}
use Rattle.acc_message.specs.Fields.{top_of}
use Rattle.acc_message.specs.VoteRule.{greatest_h}
use Rattle.acc_message_code.specs.Short.{IsShortMessage}
use Rattle.acc_message_code.specs.MessageSpelling.{message_bytes}
use Rattle.acc_record.specs.Stands.{IsFor}
use Rattle.acc_store.specs.declared.store.Store.{Store}
use Rattle.acc_payloads.specs.declared.store.StorePayload.{StorePayload}
use Rattle.acc_payloads.specs.Store.{IsStoreJournal, taken_in}
use Rattle.acc_payloads.specs.Items.{without_marks}
use Rattle.acc_payloads.specs.Texts.{has_text}
use Rattle.acc_payloads.specs.Appends.{fails_append, after_append, passed_in}
use Rattle.acc_journal.specs.Journal.{keeps_group}
use Rattle.acc_durable_store.specs.declared.name.StoreName.{StoreName}
use Rattle.acc_durable_store.specs.declared.store.DurableStore.{DurableStore}
use Rattle.acc_durable_store.specs.Store as durable
use Rattle.acc_payloads.specs.declared.stops.Unsent.{Unsent}
use Rattle.acc_payloads.specs.declared.stops.Restarted.{Restarted}
use Rattle.acc_payloads.specs.declared.stops.Restarted.TheVariants.{Up, Down}
use Rattle.acc_durable_store.specs.declared.actor.StoreState.{StoreState}
use Rattle.acc_durable_store.specs.declared.actor.StoreState.TheVariants.{Open, Shut}
use Rattle.acc_durable_store.specs.declared.actor.StoreActor.{StoreActor}
use Rattle.acc_payloads.specs.Stops.{Stop, Past, count_of, group_of, after_step, kept_with, after_group, kept_if, past_with, IsLeft, ReadsIf, IsUnsent, IsKept, KeepsByChoice}

-- ---- the state

abbrev pub disk_in : {D : Type 0} → StoreState D → D
disk_in (Open s) = s.journal.disk
disk_in (Shut disk) = disk

abbrev pub disk_of : {D : Type 0} → StoreActor D → D
disk_of actor = disk_in actor.state

-- the store over the disk, where the state isn't Shut: also one that its disk's fault took down
abbrev pub store_in : {D : Type 0} → StoreState D → Option Store
store_in (Open s) = Some s.store
store_in (Shut disk) = None

abbrev pub is_shut : {D : Type 0} → StoreState D → Bool
is_shut (Open s) = s.journal.broken
is_shut (Shut disk) = true

abbrev pub is_down : {D : Type 0} → StoreActor D → Bool
is_down actor = is_shut actor.state

-- ---- what the rules give

-- a store notes nothing
abbrev pub sends : List Message → Emitted
sends out = record { notes = []; out = out }

abbrev pub emits_next : Layout → Actor → Past Message → Message → Emitted
emits_next layout own past m = sends (store_answer layout own (replay layout own past.acts) m)

-- a message with this number, as a fault stops it
abbrev pub message_stop : ℕ → Message → Stop Message
message_stop number m = record { event = MessageEvent number; act = m; payload = message_bytes m }

-- ---- the past

-- payloads are the journal of a store that took these messages, the newest first
pub record IsJournal (layout : Layout) (name : StoreName) (payloads : List (List ℕ)) (messages : List Message) : Type 0 where
  pub items : List StorePayload
  pub journal : IsStoreJournal layout name.version name.actor payloads items
  pub taken : taken_in items ≡ messages

-- The durable store of an actor that is up, which has taken what is staged too. Its journal is still that of the past, and the payloads of
-- what is staged wait beside it.
pub record IsUp {D : Type 0} (layout : Layout) (name : StoreName) (past : Past Message) (staged : List (Stop Message)) (s : DurableStore D) : Type 0 where
  pub stands : durable.StandsFor layout s (kept_with staged past).acts
  pub name_is : durable.name_in s ≡ name
  pub journal : IsJournal layout name s.journal.payloads past.acts
  pub held_are : without_marks s.journal.payloads ≡ past.held
  pub staged_are : without_marks s.journal.group ≡ group_of staged
  pub none_staged : staged ≡ [] → s.journal.group ≡ []
  pub none_stopped : past.stopped ≡ []

abbrev pub IsUpIn : {D : Type 0} → Layout → StoreName → Past Message → List (Stop Message) → StoreState D → Type 0
IsUpIn layout name past staged (Open s) = IsUp layout name past staged s
IsUpIn layout name past staged (Shut disk) = ⊥

-- What didn't go out is what is staged, or what was stopped: nothing is staged where the actor is down, and nothing was stopped where it
-- is up.
pub record IsStaging {D : Type 0} (port : Ghosts D) (layout : Layout) (name : StoreName) (past : Past Message) (staged : List (Stop Message)) (actor : StoreActor D) : Type 0 where
  pub name_is : actor.name ≡ name
  pub left : (image : List ℕ) → port.is_image (disk_of actor) image → IsLeft (IsJournal layout name) past image
  pub unsent : IsUnsent (emits_next layout name.actor) past (staged ++ past.stopped) actor.unsent.items
  pub up : is_down actor ≡ false → IsUpIn layout name past staged actor.state
  pub down : is_down actor ≡ true → staged ≡ []
  pub kept_is : is_down actor ≡ true → actor.kept ≡ count_of past

-- nothing is staged
abbrev pub StandsFor : {D : Type 0} → Ghosts D → Layout → StoreName → Past Message → StoreActor D → Type 0
StandsFor port layout name past actor = IsStaging port layout name past [] actor

-- a fact of each past that it stands for, and of each with what is staged
abbrev pub StoreJournals : Type 1
StoreJournals = List (List ℕ) → List Message → Type 0

abbrev pub store_at : Actor → ℕ → StoreName
store_at a version = record { actor = a; version = version }

-- each image of the disk reads as the past, with what was stopped or without
abbrev pub AreLeft : {D : Type 0} → Ghosts D → D → StoreJournals → Past Message → Type 0
AreLeft port disk IsOne past = (image : List ℕ) → port.is_image disk image → IsLeft IsOne past image

-- and so does what a crash in the way of this choice leaves there: with it, or without
abbrev pub AreLeftByChoice : {D : Type 0} → Ghosts D → D → ℕ → StoreJournals → Past Message → Bool → Type 0
AreLeftByChoice port disk choice IsOne past keeps =
    (bytes : List ℕ) → port.is_image disk bytes → CrashLeaves choice (port.state disk) bytes → ReadsIf IsOne past keeps bytes

-- how many faults the disk has counted
abbrev pub faults_of : {D : Type 0} → Ghosts D → StoreActor D → ℕ
faults_of port actor = (port.state (disk_of actor)).faults

abbrev pub OfEachPast : {D : Type 0} → Ghosts D → Layout → StoreActor D → (StoreName → Past Message → Type 0) → Type 0
OfEachPast port layout actor P = (name : StoreName) (past : Past Message) → StandsFor port layout name past actor → P name past

abbrev pub OfEachStaging : {D : Type 0} → Ghosts D → Layout → StoreActor D → (StoreName → Past Message → List (Stop Message) → Type 0) → Type 0
OfEachStaging port layout actor P =
    (name : StoreName) (past : Past Message) (staged : List (Stop Message)) → IsStaging port layout name past staged actor → P name past staged

-- it stands for what it stood for
abbrev pub IsAsBefore : {D : Type 0} → Ghosts D → Layout → StoreActor D → StoreActor D → Type 0
IsAsBefore port layout old new = OfEachPast port layout old (λ name past. StandsFor port layout name past new)

-- ---- what calls need

-- it may take the message after what is staged
pub record MayTake {D : Type 0} (port : Ghosts D) (layout : Layout) (actor : StoreActor D) (staged : List (Stop Message)) (m : Message) : Type 0 where
  pub name : StoreName
  pub past : Past Message
  pub stands : IsStaging port layout name past staged actor
  pub short : IsShortMessage m
  pub goes_here : IsFor name.actor m
  pub top : top_of m < 2 ^ 62
  pub greatest : greatest_h name.actor (replay layout name.actor (kept_with staged past).acts) < 2 ^ 62
  pub texts : has_text m ≡ true → name.version ≡ 2

abbrev pub MayStage : {D : Type 0} → Ghosts D → Layout → StoreActor D → Message → Type 0
MayStage port layout actor m = (staged : List (Stop Message)) × MayTake port layout actor staged m

-- it stands for some past, with something staged or not
pub record MaySettle {D : Type 0} (port : Ghosts D) (actor : StoreActor D) : Type 0 where
  pub layout : Layout
  pub name : StoreName
  pub past : Past Message
  pub staged : List (Stop Message)
  pub stands : IsStaging port layout name past staged actor

-- ---- what calls leave

-- What is given is what the rules say, and the actor has then taken the message, or a fault has stopped it.
pub record Steps {D : Type 0} (port : Ghosts D) (layout : Layout) (name : StoreName) (past : Past Message) (stop : Stop Message) (new : StoreActor D) (given : Option Emitted) : Type 0 where
  pub emits : IfSome given (λ emitted. emitted ≡ emits_next layout name.actor past stop.act)
  pub stands : StandsFor port layout name (after_step given past stop) new

-- What is given is all that was staged, in its order, each with what the rules say after those before it; the actor has then taken all
-- of it, or a fault has stopped all of it.
pub record Settles {D : Type 0} (port : Ghosts D) (layout : Layout) (name : StoreName) (past : Past Message) (staged : List (Stop Message)) (new : StoreActor D) (given : Option (List Unsent)) : Type 0 where
  pub emits : IfSome given (IsUnsent (emits_next layout name.actor) past staged)
  pub stands : StandsFor port layout name (after_group given past staged) new

-- Restarted: the journal has more payloads than were held, or not; or the disk failed.
abbrev pub past_found : Option Bool → Past Message → Past Message
past_found (Some more) past = kept_if more past
past_found None past = past

pub record IsFound {D : Type 0} (port : Ghosts D) (layout : Layout) (name : StoreName) (past : Past Message) (found : Option Bool) (state : StoreState D) : Type 0 where
  pub left : (image : List ℕ) → port.is_image (disk_in state) image → IsLeft (IsJournal layout name) (past_found found past) image
  pub up : is_shut state ≡ false → IsUpIn layout name (past_found found past) [] state

-- with what was kept; or down as before
abbrev pub past_after : Restarted → Past Message → Past Message
past_after (Up kept) past = past_with kept past
past_after Down past = past

abbrev pub KeptIn : Layout → Actor → Past Message → Restarted → Type 0
KeptIn layout own past (Up kept) = IsKept (emits_next layout own) past kept
KeptIn layout own past Down = Unit {0}

-- ---- strict disks

-- The disk is strict. Where the actor is up, this call is armed; where it is down, so many calls of the append that failed passed, and
-- what a crash by choice leaves follows from that.
pub record IsStrictAt {D : Type 0} (port : Ghosts D) (layout : Layout) (name : StoreName) (armed passed : Option ℕ) (past : Past Message) (actor : StoreActor D) : Type 0 where
  pub is_strict : IsTrue (port.state (disk_of actor)).strict
  pub armed_is : is_down actor ≡ false → (port.state (disk_of actor)).armed ≡ armed
  pub left : is_down actor ≡ true → (choice : ℕ) (bytes : List ℕ) → CrashLeaves choice (port.state (disk_of actor)) bytes
      → ReadsIf (IsJournal layout name) past (keeps_group passed choice) bytes

-- ---- calls over strict disks

-- a step gave nothing just where its append is the one that was armed to fail
abbrev pub StepsStrictly : {D : Type 0} → Ghosts D → Layout → StoreActor D → StoreActor D → Stop Message → Result (Option Emitted) OutOfMemory → Type 0
StepsStrictly port layout old new stop result =
    (name : StoreName) (armed passed : Option ℕ) (past : Past Message) → StandsFor port layout name past old → IsStrictAt port layout name armed passed past old
    → IfOk result (λ given. (is_none given ≡ fails_append armed) × IsStrictAt port layout name (after_append armed) (passed_in armed) (after_step given past stop) new)

-- and all that was staged, which is one append
abbrev pub SettlesStrictly : {D : Type 0} → Ghosts D → StoreActor D → StoreActor D → Result (Option (List Unsent)) OutOfMemory → Type 0
SettlesStrictly port old new result =
    (layout : Layout) (name : StoreName) (armed passed : Option ℕ) (past : Past Message) (staged : List (Stop Message)) → IsStaging port layout name past staged old
    → IsStrictAt port layout name armed passed past old → staged ≢ []
    → IfOk result (λ given. (is_none given ≡ fails_append armed) × IsStrictAt port layout name (after_append armed) (passed_in armed) (after_group given past staged) new)

-- a restart tells what the choice left, and no call of its disk is armed then
abbrev pub RestartsStrictly : {D : Type 0} → Ghosts D → Layout → ℕ → StoreActor D → StoreActor D → Result Restarted OutOfMemory → Type 0
RestartsStrictly port layout choice old new result =
    (name : StoreName) (armed passed : Option ℕ) (past : Past Message) → StandsFor port layout name past old → IsStrictAt port layout name armed passed past old
    → IfOk result (λ found. KeepsByChoice passed choice past.stopped found × IsStrictAt port layout name None None (past_after found past) new)

-- Its disk is untouched. It is up, so that no past is asked for.
abbrev pub StaysStrict : {D : Type 0} → Ghosts D → Layout → StoreActor D → StoreActor D → Type 0
StaysStrict port layout old new =
    (name : StoreName) (armed passed : Option ℕ) (past other : Past Message) → IsStrictAt port layout name armed passed past old → IsStrictAt port layout name armed passed other new

-- a strict disk stays so, with this call armed
abbrev pub ArmsStrictly : {D : Type 0} → Ghosts D → ℕ → StoreActor D → StoreActor D → Type 0
ArmsStrictly port calls old new =
    (layout : Layout) (name : StoreName) (armed passed : Option ℕ) (past : Past Message) → IsStrictAt port layout name armed passed past old → IsStrictAt port layout name (Some calls) passed past new
