-- The report of items, which stand with the newest first: what it says of each, its lines, and its text.
--     name_of names roll items x      the name of the transaction with this id
--     lines_in name called item      the lines of an item
--     lines_of names roll items      the lines of all items, the oldest item first
--     report_lines, report_text      the lines of a report in either form, and its text
use Rattle.std.specs.Prelude.{ℕ, ◌-◌, Bool, true, false, List, [], ◌∷◌, ◌++◌, Option, None, Some, if◌then◌else◌, unwrap_or, slice_get, count_by, map}
use Rattle.acc_base.specs.Faults.{or_else}
use Rattle.acc_stamp.specs.declared.stamps.TxnId.{TxnId}
use Rattle.acc_stamp.specs.declared.actors.Actor.{Actor}
use Rattle.acc_stamp.specs.Stamp.{id_eq}
use Rattle.acc_deps.specs.Deps.{all_ids}
use Rattle.acc_message.specs.declared.note.Path.{Path}
use Rattle.acc_message.specs.declared.note.Path.TheVariants.{Fast, Slow, Recovered, Adopted}
use Rattle.acc_message.specs.declared.note.Note.{Note}
use Rattle.acc_message.specs.declared.note.Note.TheVariants.{Begin as BeginNote, Recover as RecoverNote, Blocked as BlockedNote, Ended as EndedNote, Decide as DecideNote, Outcome as OutcomeNote, Reply as ReplyNote}
use Rattle.acc_message.specs.declared.entry.Event.{Event}
use Rattle.acc_message.specs.declared.entry.Event.TheVariants.{Begin as Begins, Recover as Recovers, Slow as GoesSlow, Message as Takes, Restart as Restarts}
use Rattle.acc_message.specs.declared.item.Skip.{Skip}
use Rattle.acc_message.specs.declared.item.Skip.TheVariants.{NoMessage, Down as IsDown, Begun, Unknown, NoQuorum}
use Rattle.acc_message.specs.declared.item.Item.{Item}
use Rattle.acc_message.specs.declared.item.Item.TheVariants.{Step, Skipped, Down as WentDown}
use Rattle.acc_message.specs.Items.{notes_of, txn_of}
use Rattle.acc_schedule.specs.declared.plan.Print.{Print}
use Rattle.acc_schedule.specs.declared.plan.Print.TheVariants.{Lines, Summary}
use Rattle.acc_report_line.specs.declared.line.Line.{Line}
use Rattle.acc_report_line.specs.declared.line.Line.TheVariants.{Begin, Recover, Blocked, Ended, Decide, Outcome, Reply, SkipNoMessage, SkipDown, SkipBegun, SkipUnknown, SkipNoQuorum, Down, Restart, Decided, End}
use Rattle.acc_report_line.specs.Texts.{lines_text}

-- ---- names

-- the number that the roll gives an id
abbrev pub number_in : List (TxnId × ℕ) → TxnId → Option ℕ
number_in [] x = None
number_in (entry ∷ roll) x = if id_eq entry.0 x then Some entry.1 else number_in roll x

-- the number of the transaction with this id: by the roll, else by the begin of it
abbrev pub number_of : List (TxnId × ℕ) → List Item → TxnId → Option ℕ
number_of roll items x = or_else (number_in roll x) (txn_of items x)

-- the name of the transaction with this number, and nothing where none has it
abbrev pub name_at : List (List ℕ) → ℕ → List ℕ
name_at names txn = unwrap_or (slice_get names txn) []

abbrev pub name_numbered : List (List ℕ) → Option ℕ → List ℕ
name_numbered names None = []
name_numbered names (Some txn) = name_at names txn

abbrev pub name_of : List (List ℕ) → List (TxnId × ℕ) → List Item → TxnId → List ℕ
name_of names roll items x = name_numbered names (number_of roll items x)

-- ---- the lines of an item, where ids have these names and transactions are called so by their numbers

abbrev pub note_line : (TxnId → List ℕ) → Note → Line
note_line name (BeginNote id) = Begin (name id) id.0
note_line name (RecoverNote id ballot) = Recover (name id) ballot.0
note_line name (BlockedNote id ballot by) = Blocked (name id) ballot.0 (map name by)
note_line name (EndedNote id ballot by) = Ended (name id) ballot.0 by.0
note_line name (DecideNote id t path deps) = Decide (name id) t path (map name (all_ids deps))
note_line name (OutcomeNote id reply) = Outcome (name id) reply
note_line name (ReplyNote id reply) = Reply (name id) reply

abbrev pub skip_line : (ℕ → List ℕ) → ℕ → Skip → Line
skip_line called step (NoMessage number sent) = SkipNoMessage step number sent
skip_line called step (IsDown actor) = SkipDown step actor
skip_line called step (Begun txn) = SkipBegun step (called txn)
skip_line called step (Unknown txn) = SkipUnknown step (called txn)
skip_line called step (NoQuorum txn) = SkipNoQuorum step (called txn)

-- of the events a restart has a line
abbrev pub event_lines : Actor → Event → List Line
event_lines actor (Begins txn) = []
event_lines actor (Recovers txn) = []
event_lines actor (GoesSlow txn) = []
event_lines actor (Takes number) = []
event_lines actor (Restarts kept) = Restart actor kept ∷ []

abbrev pub lines_in : (TxnId → List ℕ) → (ℕ → List ℕ) → Item → List Line
lines_in name called (Step e) = event_lines e.actor e.event ++ map (note_line name) e.emitted.notes
lines_in name called (Skipped step cause) = skip_line called step cause ∷ []
lines_in name called (WentDown actor) = Down actor ∷ []

-- ---- the lines of all items

abbrev pub lines_from : (TxnId → List ℕ) → (ℕ → List ℕ) → List Item → List Line
lines_from name called [] = []
lines_from name called (item ∷ earlier) = lines_from name called earlier ++ lines_in name called item

abbrev pub lines_of : List (List ℕ) → List (TxnId × ℕ) → List Item → List Line
lines_of names roll items = lines_from (name_of names roll items) (name_at names) items

-- ---- counts

abbrev pub is_begin : Note → Bool
is_begin (BeginNote id) = true
is_begin (RecoverNote id ballot) = false
is_begin (BlockedNote id ballot by) = false
is_begin (EndedNote id ballot by) = false
is_begin (DecideNote id t path deps) = false
is_begin (OutcomeNote id reply) = false
is_begin (ReplyNote id reply) = false

abbrev pub is_reply : Note → Bool
is_reply (BeginNote id) = false
is_reply (RecoverNote id ballot) = false
is_reply (BlockedNote id ballot by) = false
is_reply (EndedNote id ballot by) = false
is_reply (DecideNote id t path deps) = false
is_reply (OutcomeNote id reply) = false
is_reply (ReplyNote id reply) = true

-- the path of a decision
abbrev pub path_in : Note → Option Path
path_in (BeginNote id) = None
path_in (RecoverNote id ballot) = None
path_in (BlockedNote id ballot by) = None
path_in (EndedNote id ballot by) = None
path_in (DecideNote id t path deps) = Some path
path_in (OutcomeNote id reply) = None
path_in (ReplyNote id reply) = None

abbrev pub same_path : Path → Path → Bool
same_path Fast Fast = true
same_path Slow Slow = true
same_path Recovered Recovered = true
same_path Adopted Adopted = true
same_path _ _ = false

abbrev pub has_path : Path → Option Path → Bool
has_path path None = false
has_path path (Some taken) = same_path path taken

abbrev pub decides_by : Path → Note → Bool
decides_by path note = has_path path (path_in note)

-- how many transactions were begun, how many have their reply, and how many more were begun
abbrev pub last_line : List Note → Line
last_line notes = End (count_by is_begin notes) (count_by is_reply notes) (count_by is_begin notes - count_by is_reply notes)

-- how many decisions each path made
abbrev pub decided_line : List Note → Line
decided_line notes =
    Decided (count_by (decides_by Fast) notes) (count_by (decides_by Slow) notes) (count_by (decides_by Recovered) notes) (count_by (decides_by Adopted) notes)

-- ---- the report

abbrev pub lines_report : List (List ℕ) → List (TxnId × ℕ) → List Item → List Line
lines_report names roll items = lines_of names roll items ++ last_line (notes_of items) ∷ []

abbrev pub summary_report : List Item → List Line
summary_report items = decided_line (notes_of items) ∷ last_line (notes_of items) ∷ []

abbrev pub report_lines : Print → List (List ℕ) → List (TxnId × ℕ) → List Item → List Line
report_lines Lines names roll items = lines_report names roll items
report_lines Summary names roll items = summary_report items

-- the text of a report
abbrev pub report_text : Print → List (List ℕ) → List (TxnId × ℕ) → List Item → List ℕ
report_text print names roll items = lines_text (report_lines print names roll items)
