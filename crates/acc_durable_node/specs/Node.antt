-- When a durable node stands for what it did.
use Rattle.std.specs.Prelude.{◌≡◌, ◌⊎◌, ℕ, ◌+◌, ◌-◌, ◌^◌, ◌<◌, min, Bool, true, false, List, ◌∷◌, ◌++◌, Some, Result, Ok, Err, length}
use Rattle.acc_stamp.specs.declared.stamps.TxnId.{TxnId}
use Rattle.acc_stamp.specs.Clock.{ClockState}
use Rattle.acc_topology.specs.Layout.{Layout}
use Rattle.acc_ports.specs.declared.disk.Disk.{Ghosts}
use Rattle.acc_ports.specs.declared.error.PortError.TheVariants as error
use Rattle.acc_message.specs.declared.entry.Emitted.{Emitted}
use Rattle.acc_message.specs.NodeRules.{Act, Slows, Restarts}
use Rattle.acc_message_code.specs.Weight.{weight_of_all}
use Rattle.acc_node.specs.declared.node.Node.{Node}
use Rattle.acc_node.specs.Stands as node
use Rattle.acc_journal.specs.declared.error.JournalError.{JournalError}
use Rattle.acc_journal.specs.declared.error.JournalError.TheVariants as journal
use Rattle.acc_journal.specs.Layout.{Reads, IsForeign, IsCut}
use Rattle.acc_journal.specs.Journal.{JournalState}
use Rattle.acc_journal.specs.Calls.{Answer, Appends}
use Rattle.acc_payloads.specs.declared.draw.Purpose.{Purpose}
use Rattle.acc_payloads.specs.declared.draw.Draw.{Draw}
use Rattle.acc_payloads.specs.declared.node.NodePayload.{NodePayload}
use Rattle.acc_payloads.specs.Spelling.{draw_bytes}
use Rattle.acc_payloads.specs.Journals.{IsBadRecord, appended, marked_after}
use Rattle.acc_payloads.specs.Node.{node_bytes, NodeMay, IsNodeJournal, has_mark, draws_in}
use Rattle.acc_durable_node.specs.declared.name.NodeName.{NodeName}
use Rattle.acc_durable_node.specs.declared.node.DurableNode.{DurableNode}
use Rattle.acc_durable_node.specs.declared.error.DurableError.{DurableError}
use Rattle.acc_durable_node.specs.declared.error.DurableError.TheVariants.{Begun, DiskFault, OutOfMemory}
use Rattle.acc_payloads.specs.Acts.{next_draw_of, AreDrawsOf}
use Rattle.acc_durable_node.specs.Names.{deeds_by, emits_by, id_begun, attempt_by}

-- the same with another node, journal, mark and count
abbrev pub with_parts : {D : Type 0} → DurableNode D → Node → JournalState D → Bool → ℕ → DurableNode D
with_parts old node_now journal_now marked_now kept_now =
    record old { node = node_now; journal = journal_now; marked = marked_now; kept = kept_now }

-- the same with other room in the journal
abbrev pub with_spare : {D : Type 0} → DurableNode D → ℕ → DurableNode D
with_spare old spare = with_parts old old.node (record old.journal { spare = spare }) old.marked old.kept

-- what a draw leaves of a journal, its mark and its count
pub record Drew {D : Type 0} (old : DurableNode D) (journal_now : JournalState D) (marked_now : Bool) (kept_now : ℕ) (group : List (List ℕ)) : Type 0 where
  pub sound : journal_now.broken ≡ false
  pub payloads : journal_now.payloads ≡ old.journal.payloads ++ group
  pub marked : marked_now ≡ marked_after old.name.version old.marked
  pub kept : kept_now ≡ min (old.kept + 1) (2 ^ 64 - 1)

-- the journal holds these draws
pub record Holds {D : Type 0} (n : DurableNode D) (draws : List Draw) : Type 0 where
  pub items : List NodePayload
  pub journal : IsNodeJournal n.name.version n.name.start n.journal.payloads items
  pub draws_are : draws_in items ≡ draws
  pub marked : n.marked ≡ has_mark items
  pub kept : n.kept ≡ min (length draws) (2 ^ 64 - 1)

-- The node took these acts, the newest first, its journal isn't broken, and it holds the draws of these acts.
pub record StandsFor {D : Type 0} (layout : Layout) (n : DurableNode D) (acts : List Act) : Type 0 where
  pub sound : n.journal.broken ≡ false
  pub stands : node.StandsFor layout n.name.number n.name.start n.node acts
  pub draws : List Draw
  pub drawn : AreDrawsOf n.name.number n.name.start (deeds_by layout n.name acts) draws
  pub held : Holds n draws

-- a fact of all acts that it may have taken
abbrev pub OfActs : {D : Type 0} → Layout → DurableNode D → (List Act → Type 0) → Type 0
OfActs layout n P = (acts : List Act) → StandsFor layout n acts → P acts

-- it emits what the rules of a node say, and the node has then taken the act
pub record Takes {D : Type 0} (layout : Layout) (old new : DurableNode D) (acts : List Act) (act : Act) (emitted : Emitted) : Type 0 where
  pub emits : emitted ≡ emits_by layout old.name acts act
  pub stands : StandsFor layout new (act ∷ acts)

-- It gives the fast path of the first attempt at a transaction up that it has begun: the attempt waits for votes, and a majority of
-- each shard has answered it.
pub record HasSlowed {D : Type 0} (layout : Layout) (old new : DurableNode D) (acts : List Act) (txn : ℕ) (emitted : Emitted) : Type 0 where
  pub id : TxnId
  pub begun : id_begun layout old.name txn acts ≡ Some id
  pub waits : node.is_first_voting (attempt_by layout old.name id acts) ≡ true
  pub majority : node.has_majority layout id (attempt_by layout old.name id acts) ≡ true
  pub takes : Takes layout old new acts (Slows id) emitted

-- the same, of whatever acts it stands for
abbrev pub TakesOn : {D : Type 0} → Layout → DurableNode D → DurableNode D → Act → Emitted → Type 0
TakesOn layout old new act emitted = OfActs layout old (λ acts. Takes layout old new acts act emitted)

-- so many bytes of encoded messages would go out for an act
abbrev pub Weighs : {D : Type 0} → Layout → DurableNode D → Act → ℕ → Type 0
Weighs layout n act weight = OfActs layout n (λ acts. weight ≡ weight_of_all (emits_by layout n.name acts act).out)

-- it stands for what it stood for
abbrev pub IsAsBefore : {D : Type 0} → Layout → DurableNode D → DurableNode D → Type 0
IsAsBefore layout old new = OfActs layout old (StandsFor layout new)

-- what a draw appends to the journal
abbrev pub draw_group : {D : Type 0} → DurableNode D → Purpose → ℕ → List (List ℕ)
draw_group n purpose txn = appended n.name.version n.marked (draw_bytes (next_draw_of n.node.clock purpose txn))

abbrev pub AppendsDraw : {D : Type 0} → Ghosts D → DurableNode D → DurableNode D → Purpose → ℕ → Answer → Type 0
AppendsDraw port old new purpose txn answer =
    Appends port old.journal.disk new.journal.disk old.journal.payloads (draw_group old purpose txn) answer

-- ---- reopened

-- payloads are the journal of a node that took these acts, the newest first
pub record IsJournalAfter (layout : Layout) (name : NodeName) (payloads : List (List ℕ)) (acts : List Act) : Type 0 where
  pub items : List NodePayload
  pub journal : IsNodeJournal name.version name.start payloads items
  pub drawn : AreDrawsOf name.number name.start (deeds_by layout name acts) (draws_in items)

-- of all acts whose journal stands in a content
abbrev pub OfEachJournal : List ℕ → NodeName → (Layout → List Act → Type 0) → Type 0
OfEachJournal content name P =
    (layout : Layout) (acts : List Act) (payloads : List (List ℕ)) → Reads content payloads → IsJournalAfter layout name payloads acts → P layout acts

-- the clock may draw
pub record IsLow (clock : ClockState) : Type 0 where
  pub drawn : clock.drawn < 2 ^ 62
  pub seen : clock.seen < 2 ^ 62

-- what the journal gives back: the draws and the begun transactions, and nothing else
pub record IsReopened {D : Type 0} (n : DurableNode D) : Type 0 where
  pub sound : n.journal.broken ≡ false
  pub draws : List Draw
  pub held : Holds n draws
  -- whatever acts have these draws, the node has restarted after them
  pub restarted : (layout : Layout) (acts : List Act) → AreDrawsOf n.name.number n.name.start (deeds_by layout n.name acts) draws → node.StandsFor layout n.name.number n.name.start n.node (Restarts ∷ acts)

-- payloads were read, and one of them may not stand in the journal of a node
pub record HasBadRecord (content : List ℕ) (name : NodeName) (place : ℕ) : Type 0 where
  pub payloads : List (List ℕ)
  pub reads : Reads content payloads
  pub bad : IsBadRecord node_bytes (NodeMay name.version name.start) payloads place

-- the bytes of a disk are refused with this error
abbrev pub IsRefusedBy : List ℕ → NodeName → JournalError → Type 0
IsRefusedBy content name journal.DiskFault = Unit {0}
IsRefusedBy content name (journal.BadVersion byte) = IsForeign content byte
IsRefusedBy content name (journal.BadRecord place) = IsCut content place ⊎ HasBadRecord content name place
IsRefusedBy content name journal.OutOfMemory = Unit {0}

-- ---- errors

-- the journal has its disk, its payloads and its state
abbrev pub KeepsJournal : {D : Type 0} → DurableNode D → DurableNode D → Type 0
KeepsJournal old new =
    (new.journal.disk ≡ old.journal.disk) × (new.journal.payloads ≡ old.journal.payloads) × (new.journal.broken ≡ old.journal.broken)

-- what an error leaves, and what it tells of the emitted
abbrev pub Refuses : {D : Type 0} → Layout → DurableNode D → DurableNode D → Act → DurableError → Type 0
Refuses layout old new act Begun = IsAsBefore layout old new × KeepsJournal old new
Refuses layout old new act (DiskFault unsent) =
    (new.journal.broken ≡ true)
    × OfActs layout old (λ acts. unsent ≡ emits_by layout old.name acts act)
Refuses layout old new act OutOfMemory = (new.journal.broken ≡ true) ⊎ (IsAsBefore layout old new × KeepsJournal old new)

-- what stands for the answer of the disk, where a step answered this: what came before any call of it counts as want of memory
abbrev pub draw_answer : {T : Type 0} → Result T DurableError → Answer
draw_answer (Ok value) = Ok tt
draw_answer (Err Begun) = Err error.OutOfMemory
draw_answer (Err (DiskFault unsent)) = Err error.Failed
draw_answer (Err OutOfMemory) = Err error.OutOfMemory

-- an append failed, and with it a step that would have emitted this
abbrev pub FailsToAppend : Emitted → Bool → DurableError → Type 0
FailsToAppend emitted broken Begun = ⊥
FailsToAppend emitted broken (DiskFault unsent) = (broken ≡ true) × (unsent ≡ emitted)
FailsToAppend emitted broken OutOfMemory = broken ≡ true
