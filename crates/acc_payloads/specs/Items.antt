-- What the items of a run, newest first, put into the journal of an actor, and which payloads of a journal aren't marks.
use Rattle.std.specs.Prelude.{◌≡◌, ℕ, ◌+◌, Bool, true, false, not, cond, List, [], ◌∷◌, ◌++◌, Option, None, Some}
use Rattle.std.specs.List.{filter, list_any}
use Rattle.std.specs.Str.{bytes_eq}
use Rattle.acc_base.specs.Faults.{or_else}
use Rattle.acc_stamp.specs.declared.stamps.Stamp.{Stamp}
use Rattle.acc_stamp.specs.declared.actors.Actor.{Actor}
use Rattle.acc_message.specs.declared.message.Message.{Message}
use Rattle.acc_message.specs.declared.note.Note.{Note}
use Rattle.acc_message.specs.declared.note.Note.TheVariants.{Begin as BeginNote, Recover as RecoverNote, Blocked, Ended, Decide, Outcome as OutcomeNote, Reply as ReplyNote}
use Rattle.acc_message.specs.declared.entry.Event.{Event}
use Rattle.acc_message.specs.declared.entry.Event.TheVariants.{Begin as BeginEvent, Recover as RecoverEvent, Slow as SlowEvent, Message as MessageEvent, Restart as RestartEvent}
use Rattle.acc_message.specs.declared.item.Item.{Item}
use Rattle.acc_message.specs.declared.item.Item.TheVariants.{Step, Skipped, Down}
use Rattle.acc_message.specs.Items.{same_actor, message_at}
use Rattle.acc_message.specs.Run.{is_node}
use Rattle.acc_message_code.specs.Fitting.{FitsMessage}
use Rattle.acc_message_code.specs.MessageSpelling.{message_bytes}
use Rattle.acc_payloads.specs.declared.draw.Purpose.{Purpose}
use Rattle.acc_payloads.specs.declared.draw.Purpose.TheVariants.{Begin, Recover}
use Rattle.acc_payloads.specs.Spelling.{mark_bytes, draw_bytes}
use Rattle.acc_payloads.specs.Journals.{EachMay, may_mark}
use Rattle.acc_payloads.specs.Texts.{has_text}

-- ---- payloads

-- the stamp that a begin or a recover draws, by its note
abbrev pub drawn_in : Note → Option Stamp
drawn_in (BeginNote id) = Some id.0
drawn_in (RecoverNote id ballot) = Some ballot.0
drawn_in (Blocked id ballot by) = None
drawn_in (Ended id ballot by) = None
drawn_in (Decide id t path deps) = None
drawn_in (OutcomeNote id reply) = None
drawn_in (ReplyNote id reply) = None

abbrev pub drawn_by : List Note → Option Stamp
drawn_by [] = None
drawn_by (note ∷ notes) = or_else (drawn_in note) (drawn_by notes)

abbrev pub draw_payload : Purpose → ℕ → Option Stamp → List (List ℕ)
draw_payload purpose txn None = []
draw_payload purpose txn (Some stamp) = draw_bytes (record { purpose = purpose; txn = txn; h = stamp.h }) ∷ []

abbrev pub message_payload : Option Message → List (List ℕ)
message_payload None = []
message_payload (Some m) = message_bytes m ∷ []

-- Begins, recovers and the messages that stores take are journalled, and nothing else: of a begin or a recover the draw, and of a
-- message its bytes.
abbrev pub payload_by : List Item → Actor → Event → List Note → List (List ℕ)
payload_by earlier a (BeginEvent txn) notes = draw_payload Begin txn (drawn_by notes)
payload_by earlier a (RecoverEvent txn) notes = draw_payload Recover txn (drawn_by notes)
payload_by earlier a (SlowEvent txn) notes = []
payload_by earlier a (MessageEvent number) notes = cond (is_node a) [] (message_payload (message_at earlier number))
payload_by earlier a (RestartEvent kept) notes = []

abbrev pub payload_in : Actor → List Item → Item → List (List ℕ)
payload_in a earlier (Step e) = cond (same_actor e.actor a) (payload_by earlier a e.event e.emitted.notes) []
payload_in a earlier (Skipped step cause) = []
payload_in a earlier (Down actor) = []

-- the payloads of an actor's entries in these items, those of lost entries too, the oldest first
abbrev pub payloads_in : Actor → List Item → List (List ℕ)
payloads_in a [] = []
payloads_in a (item ∷ earlier) = payloads_in a earlier ++ payload_in a earlier item

-- ---- downs

abbrev pub is_down_of : Actor → Item → Bool
is_down_of a (Step e) = false
is_down_of a (Skipped step cause) = false
is_down_of a (Down actor) = same_actor actor a

-- how often the actor went down
abbrev pub downs_in : Actor → List Item → ℕ
downs_in a [] = 0
downs_in a (item ∷ earlier) = cond (is_down_of a item) (1 + downs_in a earlier) (downs_in a earlier)

abbrev pub is_item_of : Actor → Item → Bool
is_item_of a (Step e) = same_actor e.actor a
is_item_of a (Skipped step cause) = false
is_item_of a (Down actor) = same_actor actor a

-- the actor's last item is a down
abbrev pub ends_down : Actor → List Item → Bool
ends_down a [] = false
ends_down a (item ∷ earlier) = cond (is_item_of a item) (is_down_of a item) (ends_down a earlier)

-- ---- marks

abbrev pub has_mark_among : List (List ℕ) → Bool
has_mark_among payloads = list_any (λ payload. bytes_eq payload mark_bytes) payloads

-- A mark stands where one may, and what has a text value stands after one.
pub record MayBeMarked (version : ℕ) (before : List (List ℕ)) (payload : List ℕ) : Type 0 where
  pub marks : payload ≡ mark_bytes → may_mark version (has_mark_among before) ≡ true
  pub texts : (m : Message) → FitsMessage m → payload ≡ message_bytes m → has_text m ≡ true → has_mark_among before ≡ true

-- the payloads break no rule on marks
abbrev pub AreMarked : ℕ → List (List ℕ) → Type 0
AreMarked version payloads = EachMay (MayBeMarked version) [] payloads

-- ---- disks

-- the payloads that aren't marks
abbrev pub without_marks : List (List ℕ) → List (List ℕ)
without_marks payloads = filter (λ payload. not (bytes_eq payload mark_bytes)) payloads

-- These are the payloads; where the actor is down further ones may stand after them.
abbrev pub AreKept : Bool → List (List ℕ) → List (List ℕ) → Type 0
AreKept false payloads kept = kept ≡ payloads
AreKept true payloads kept = (further : List (List ℕ)) × (kept ≡ payloads ++ further)
