-- Items that a report can tell: each transaction in them is known by its number, which has a name, and their other parts are
-- such as lines may have.
--     IsKnown names numbers x      the id has a number, and the number a name
--     PartsFit names item      what the item has besides its notes can be told
--     ItemFits names numbers item      the item can be told
--     ItemsFit names roll items      each of the items can, by the numbers of the roll and of their begins
use Rattle.std.specs.Prelude.{ℕ, ◌<◌, List, length, Option, None, Some}
use Rattle.std.specs.List.{AllByRecursion}
use Rattle.acc_stamp.specs.declared.stamps.TxnId.{TxnId}
use Rattle.acc_stamp.specs.declared.actors.Actor.{Actor}
use Rattle.acc_deps.specs.Deps.{all_ids}
use Rattle.acc_message.specs.declared.note.Note.{Note}
use Rattle.acc_message.specs.declared.note.Note.TheVariants.{Begin as BeginNote, Recover as RecoverNote, Blocked as BlockedNote, Ended as EndedNote, Decide as DecideNote, Outcome as OutcomeNote, Reply as ReplyNote}
use Rattle.acc_message.specs.declared.entry.Event.{Event}
use Rattle.acc_message.specs.declared.entry.Event.TheVariants.{Begin as Begins, Recover as Recovers, Slow as GoesSlow, Message as Takes, Restart as Restarts}
use Rattle.acc_message.specs.declared.item.Skip.{Skip}
use Rattle.acc_message.specs.declared.item.Skip.TheVariants.{NoMessage, Down as IsDown, Begun, Unknown, NoQuorum}
use Rattle.acc_message.specs.declared.item.Item.{Item}
use Rattle.acc_message.specs.declared.item.Item.TheVariants.{Step, Skipped, Down as WentDown}
use Rattle.acc_report.specs.Report.{number_of}
use Rattle.acc_report_line.specs.Forms.{IsCount, IsStamp, IsActor, IsReply}

abbrev pub IsNamed : List (List ℕ) → ℕ → Type 0
IsNamed names txn = txn < length names

abbrev pub IsNumbered : List (List ℕ) → Option ℕ → Type 0
IsNumbered names None = ⊥
IsNumbered names (Some txn) = IsNamed names txn

abbrev pub IsKnown : List (List ℕ) → (TxnId → Option ℕ) → TxnId → Type 0
IsKnown names numbers x = IsNumbered names (numbers x)

abbrev pub NoteFits : List (List ℕ) → (TxnId → Option ℕ) → Note → Type 0
NoteFits names numbers (BeginNote id) = IsKnown names numbers id × IsStamp id.0
NoteFits names numbers (RecoverNote id ballot) = IsKnown names numbers id × IsStamp ballot.0
NoteFits names numbers (BlockedNote id ballot by) = IsKnown names numbers id × IsStamp ballot.0 × AllByRecursion (IsKnown names numbers) by
NoteFits names numbers (EndedNote id ballot by) = IsKnown names numbers id × IsStamp ballot.0 × IsStamp by.0
NoteFits names numbers (DecideNote id t path deps) = IsKnown names numbers id × IsStamp t × AllByRecursion (IsKnown names numbers) (all_ids deps)
NoteFits names numbers (OutcomeNote id reply) = IsKnown names numbers id × IsReply reply
NoteFits names numbers (ReplyNote id reply) = IsKnown names numbers id × IsReply reply

abbrev pub SkipFits : List (List ℕ) → Skip → Type 0
SkipFits names (NoMessage number sent) = IsCount number × IsCount sent
SkipFits names (IsDown actor) = IsActor actor
SkipFits names (Begun txn) = IsNamed names txn
SkipFits names (Unknown txn) = IsNamed names txn
SkipFits names (NoQuorum txn) = IsNamed names txn

-- of the events a restart is told
abbrev pub EventFits : Actor → Event → Type 0
EventFits actor (Begins txn) = Unit {0}
EventFits actor (Recovers txn) = Unit {0}
EventFits actor (GoesSlow txn) = Unit {0}
EventFits actor (Takes number) = Unit {0}
EventFits actor (Restarts kept) = IsActor actor × IsCount kept

-- what is told of the item besides its notes: a restart, why a step was passed over, an actor that went down
abbrev pub PartsFit : List (List ℕ) → Item → Type 0
PartsFit names (Step e) = EventFits e.actor e.event
PartsFit names (Skipped step cause) = IsCount step × SkipFits names cause
PartsFit names (WentDown actor) = IsActor actor

abbrev pub ItemFits : List (List ℕ) → (TxnId → Option ℕ) → Item → Type 0
ItemFits names numbers (Step e) = EventFits e.actor e.event × AllByRecursion (NoteFits names numbers) e.emitted.notes
ItemFits names numbers (Skipped step cause) = IsCount step × SkipFits names cause
ItemFits names numbers (WentDown actor) = IsActor actor

abbrev pub ItemsFit : List (List ℕ) → List (TxnId × ℕ) → List Item → Type 0
ItemsFit names roll items = AllByRecursion (ItemFits names (number_of roll items)) items
