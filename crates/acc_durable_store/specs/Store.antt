-- When a durable store stands for the messages that it took.
use Rattle.std.specs.Prelude.{◌≡◌, ◌⊎◌, ℕ, ◌-◌, ◌^◌, ◌<◌, min, true, false, List, [], ◌∷◌, ◌++◌, length, Result, Ok, Err, IfOk}
use Rattle.acc_stamp.specs.declared.actors.Actor.{Actor}
use Rattle.acc_topology.specs.Layout.{Layout}
use Rattle.acc_ports.specs.declared.disk.Disk.{Ghosts}
use Rattle.acc_ports.specs.declared.error.PortError.TheVariants as error
use Rattle.acc_message.specs.declared.message.Message.{Message}
use Rattle.acc_message.specs.Fields.{top_of}
use Rattle.acc_message.specs.StoreRules.{store_answer, replay}
use Rattle.acc_message_code.specs.Short.{IsShortMessage}
use Rattle.acc_message_code.specs.MessageSpelling.{message_bytes}
use Rattle.acc_journal.specs.declared.error.JournalError.{JournalError}
use Rattle.acc_journal.specs.declared.error.JournalError.TheVariants as journal
use Rattle.acc_journal.specs.Layout.{Reads, IsForeign, IsCut}
use Rattle.acc_journal.specs.Calls.{Answer, Appends}
use Rattle.acc_record.specs.Stands.{IsFor}
use Rattle.acc_store.specs.Stands as store
use Rattle.acc_payloads.specs.declared.store.StorePayload.{StorePayload}
use Rattle.acc_payloads.specs.Journals.{IsBadRecord, appended}
use Rattle.acc_payloads.specs.Store.{store_bytes, StoreMay, IsStoreJournal, has_mark, taken_in}
use Rattle.acc_payloads.specs.Items.{without_marks}
use Rattle.acc_payloads.specs.Texts.{has_text}
use Rattle.acc_durable_store.specs.declared.name.StoreName.{StoreName}
use Rattle.acc_durable_store.specs.declared.store.DurableStore.{DurableStore}
use Rattle.acc_durable_store.specs.declared.error.StepError.{StepError}
use Rattle.acc_durable_store.specs.declared.error.StepError.TheVariants.{DiskFault, OutOfMemory}

abbrev pub actor_in : {D : Type 0} → DurableStore D → Actor
actor_in s = store.actor_of s.store

-- what it was opened as
abbrev pub name_in : {D : Type 0} → DurableStore D → StoreName
name_in s = record { actor = actor_in s; version = s.version }

-- what a message appends to the journal
abbrev pub message_group : {D : Type 0} → DurableStore D → Message → List (List ℕ)
message_group s m = appended s.version s.marked (message_bytes m)

abbrev pub AppendsGroup : {D : Type 0} → Ghosts D → DurableStore D → DurableStore D → List (List ℕ) → Answer → Type 0
AppendsGroup port old new group answer = Appends port old.journal.disk new.journal.disk old.journal.payloads group answer

-- The journal and what is staged hold these messages, the newest first.
pub record Holds {D : Type 0} (layout : Layout) (s : DurableStore D) (messages : List Message) : Type 0 where
  pub items : List StorePayload
  pub journal : IsStoreJournal layout s.version (actor_in s) (s.journal.payloads ++ s.journal.group) items
  pub taken : taken_in items ≡ messages
  pub marked : s.marked ≡ has_mark items
  pub kept : s.kept ≡ min (length (without_marks s.journal.payloads)) (2 ^ 64 - 1)
  pub staged : s.staged ≡ length (without_marks s.journal.group)

-- The store took these messages, the newest first: it is their replay, and its journal, which isn't broken, holds them, with what is
-- staged.
pub record StandsFor {D : Type 0} (layout : Layout) (s : DurableStore D) (messages : List Message) : Type 0 where
  pub sound : s.journal.broken ≡ false
  pub stands : store.StandsFor layout s.store (replay layout (actor_in s) messages)
  pub held : Holds layout s messages

-- ---- a message is taken

-- The store isn't broken, and the message may be given to it.
pub record CanTake {D : Type 0} (layout : Layout) (s : DurableStore D) (m : Message) : Type 0 where
  pub sound : s.journal.broken ≡ false
  pub short : IsShortMessage m
  pub goes_here : IsFor (actor_in s) m
  pub top : top_of m < 2 ^ 62
  pub greatest : store.greatest_in s.store < 2 ^ 62
  pub stands : store.IsStanding layout s.store
  pub texts : has_text m ≡ true → s.version ≡ 2

-- it sends what the rules of a store say, and the store has then taken the message
pub record Takes {D : Type 0} (layout : Layout) (old new : DurableStore D) (messages : List Message) (m : Message) (sent : List Message) : Type 0 where
  pub answers : sent ≡ store_answer layout (actor_in old) (replay layout (actor_in old) messages) m
  pub stands : StandsFor layout new (m ∷ messages)

-- an Ok is that, for whatever messages the store stood for
abbrev pub HasTaken : {D E : Type 0} → Layout → DurableStore D → DurableStore D → Message → Result (List Message) E → Type 0
HasTaken layout old new m result = IfOk result (λ sent. (messages : List Message) → StandsFor layout old messages → Takes layout old new messages m sent)

-- ---- what calls leave

-- each image of the disk reads as the journal's payloads
abbrev pub AllRead : {D : Type 0} → Ghosts D → DurableStore D → Type 0
AllRead port s = (image : List ℕ) → port.is_image s.journal.disk image → Reads image s.journal.payloads

-- it stands for what it stood for
abbrev pub IsAsBefore : {D : Type 0} → DurableStore D → DurableStore D → Type 0
IsAsBefore old new = (layout : Layout) (messages : List Message) → StandsFor layout old messages → StandsFor layout new messages

-- and nothing changed on its disk or in what is staged
pub record IsUntouched {D : Type 0} (old new : DurableStore D) : Type 0 where
  pub journal : new.journal ≡ old.journal
  pub as_before : IsAsBefore old new

-- it is a store of the same number and version
pub record IsTheSame {D : Type 0} (old new : DurableStore D) : Type 0 where
  pub actor : actor_in new ≡ actor_in old
  pub version : new.version ≡ old.version

-- ---- reopened

-- the store that a journal with these payloads gives back is the replay of them
pub record IsReopened {D : Type 0} (layout : Layout) (s : DurableStore D) (payloads : List (List ℕ)) : Type 0 where
  pub same : s.journal.payloads ≡ payloads
  pub none_staged : s.journal.group ≡ []
  pub messages : List Message
  pub stands : StandsFor layout s messages

-- payloads were read, and one of them may not stand in the journal of this store
pub record HasBadRecord (layout : Layout) (content : List ℕ) (version : ℕ) (own : Actor) (place : ℕ) : Type 0 where
  pub payloads : List (List ℕ)
  pub reads : Reads content payloads
  pub bad : IsBadRecord store_bytes (StoreMay layout version own) payloads place

-- the bytes of a disk are refused with this error
abbrev pub IsRefusedBy : Layout → List ℕ → ℕ → Actor → JournalError → Type 0
IsRefusedBy layout content version own journal.DiskFault = Unit {0}
IsRefusedBy layout content version own (journal.BadVersion byte) = IsForeign content byte
IsRefusedBy layout content version own (journal.BadRecord place) = IsCut content place ⊎ HasBadRecord layout content version own place
IsRefusedBy layout content version own journal.OutOfMemory = Unit {0}

-- ---- errors

-- what an error of a step leaves, and what it tells of the answers
abbrev pub Refuses : {D : Type 0} → Layout → DurableStore D → DurableStore D → Message → StepError → Type 0
Refuses layout old new m (DiskFault unsent) =
    (new.journal.broken ≡ true)
    × ((messages : List Message) → StandsFor layout old messages → unsent ≡ store_answer layout (actor_in old) (replay layout (actor_in old) messages) m)
Refuses layout old new m OutOfMemory = (new.journal.broken ≡ true) ⊎ IsUntouched old new

-- what an error of settling leaves: nothing is unsent
abbrev pub FailsToSettle : {D : Type 0} → DurableStore D → StepError → Type 0
FailsToSettle new (DiskFault unsent) = (new.journal.broken ≡ true) × (unsent ≡ [])
FailsToSettle new OutOfMemory = new.journal.broken ≡ true

-- what was staged is still staged, and nothing of it counts as kept
pub record IsStillStaged {D : Type 0} (old new : DurableStore D) : Type 0 where
  pub group : new.journal.group ≡ old.journal.group
  pub staged : new.staged ≡ old.staged
  pub kept : new.kept ≡ old.kept
  pub marked : new.marked ≡ old.marked

-- what stands for the answer of the disk, where a step answered this: what came before any call of it counts as want of memory
abbrev pub step_answer : {T : Type 0} → Result T StepError → Answer
step_answer (Ok value) = Ok tt
step_answer (Err (DiskFault unsent)) = Err error.Failed
step_answer (Err OutOfMemory) = Err error.OutOfMemory
