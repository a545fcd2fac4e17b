-- The items of a run, newest first, the numbers of its messages, and what each item noted.
use Rattle.std.specs.Prelude.{ℕ, Bool, false, cond, ◌==◌, List, [], ◌∷◌, ◌++◌, Option, None, Some}
use Rattle.std.specs.List.{list_any, slice_get}
use Rattle.acc_base.specs.Faults.{or_else}
use Rattle.acc_stamp.specs.declared.stamps.TxnId.{TxnId}
use Rattle.acc_stamp.specs.declared.actors.Actor.{Actor}
use Rattle.acc_stamp.specs.Stamp.{id_eq}
use Rattle.acc_message.specs.declared.message.Message.{Message}
use Rattle.acc_message.specs.declared.note.Note.{Note}
use Rattle.acc_message.specs.declared.note.Note.TheVariants.{Begin as BeginNote, Recover as RecoverNote, Blocked, Ended, Decide, Outcome as OutcomeNote, Reply as ReplyNote}
use Rattle.acc_message.specs.declared.entry.Event.{Event}
use Rattle.acc_message.specs.declared.entry.Event.TheVariants.{Begin}
use Rattle.acc_message.specs.declared.item.Item.{Item}
use Rattle.acc_message.specs.declared.item.Item.TheVariants.{Step, Skipped, Down}

abbrev pub same_actor : Actor → Actor → Bool
same_actor a b = a.0 == b.0

-- ---- messages and notes

abbrev pub sent_in : Item → List Message
sent_in (Step e) = e.emitted.out
sent_in (Skipped step cause) = []
sent_in (Down actor) = []

abbrev pub noted_in : Item → List Note
noted_in (Step e) = e.emitted.notes
noted_in (Skipped step cause) = []
noted_in (Down actor) = []

-- every message that was sent, those of lost entries too, the oldest first, so that a message's place is its number
abbrev pub sent_of : List Item → List Message
sent_of [] = []
sent_of (item ∷ earlier) = sent_of earlier ++ sent_in item

-- every note, in the order in which they are printed
abbrev pub notes_of : List Item → List Note
notes_of [] = []
notes_of (item ∷ earlier) = notes_of earlier ++ noted_in item

-- the message with this number
abbrev pub message_at : List Item → ℕ → Option Message
message_at items number = slice_get (sent_of items) number

-- the transaction that a note is about
abbrev pub id_of_note : Note → TxnId
id_of_note (BeginNote id) = id
id_of_note (RecoverNote id ballot) = id
id_of_note (Blocked id ballot by) = id
id_of_note (Ended id ballot by) = id
id_of_note (Decide id t path deps) = id
id_of_note (OutcomeNote id reply) = id
id_of_note (ReplyNote id reply) = id

-- the note begins x, and replies to x
abbrev pub begins : TxnId → Note → Bool
begins x (BeginNote id) = id_eq id x
begins x _ = false

abbrev pub replies : TxnId → Note → Bool
replies x (ReplyNote id reply) = id_eq id x
replies x _ = false

-- ---- transactions and their numbers

-- the id that a begin drew
abbrev pub id_drawn : List Note → Option TxnId
id_drawn [] = None
id_drawn (BeginNote id ∷ notes) = Some id
id_drawn (RecoverNote id ballot ∷ notes) = id_drawn notes
id_drawn (Blocked id ballot by ∷ notes) = id_drawn notes
id_drawn (Ended id ballot by ∷ notes) = id_drawn notes
id_drawn (Decide id t path deps ∷ notes) = id_drawn notes
id_drawn (OutcomeNote id reply ∷ notes) = id_drawn notes
id_drawn (ReplyNote id reply ∷ notes) = id_drawn notes

-- the event begins the transaction with this number, and the number of the transaction that it begins
abbrev pub event_begins : ℕ → Event → Bool
event_begins number (Begin txn) = txn == number
event_begins number _ = false

abbrev pub txn_begun : Event → Option ℕ
txn_begun (Begin txn) = Some txn
txn_begun _ = None

abbrev pub begins_txn : ℕ → Item → Bool
begins_txn number (Step e) = event_begins number e.event
begins_txn number (Skipped step cause) = false
begins_txn number (Down actor) = false

abbrev pub is_begun : List Item → ℕ → Bool
is_begun items number = list_any (begins_txn number) items

-- the id with which an item begins the transaction with this number
abbrev pub id_begun : ℕ → Item → Option TxnId
id_begun number (Step e) = cond (event_begins number e.event) (id_drawn e.emitted.notes) None
id_begun number (Skipped step cause) = None
id_begun number (Down actor) = None

-- the id of the transaction with this number, which its first begin drew
abbrev pub id_of_txn : List Item → ℕ → Option TxnId
id_of_txn [] number = None
id_of_txn (item ∷ earlier) number = or_else (id_of_txn earlier number) (id_begun number item)

-- the number of the transaction that an item begins with this id
abbrev pub txn_in : TxnId → Item → Option ℕ
txn_in x (Step e) = cond (list_any (begins x) e.emitted.notes) (txn_begun e.event) None
txn_in x (Skipped step cause) = None
txn_in x (Down actor) = None

-- the number of the transaction with this id
abbrev pub txn_of : List Item → TxnId → Option ℕ
txn_of [] x = None
txn_of (item ∷ earlier) x = or_else (txn_of earlier x) (txn_in x item)
