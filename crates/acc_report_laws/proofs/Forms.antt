-- The lines of items that can be told have forms.
use Rattle.std.proofs.Common.{◌≡◌, ℕ, ◌<◌, ◌-◌, ◌≤◌, ◌^◌, Bool, List, [], ◌∷◌, ◌++◌, length, map, count_by, Option, arith}
use Rattle.std.specs.List.{AllByRecursion}
use Rattle.std.proofs.lemmas.List.Sums.{count_by-le-length}
use Rattle.acc_stamp.proofs.Rising.{each_append}
use Rattle.acc_stamp.specs.declared.stamps.TxnId.{TxnId}
use Rattle.acc_stamp.specs.declared.actors.Actor.{Actor}
use Rattle.acc_deps.specs.Deps.{all_ids}
use Rattle.acc_message.specs.declared.note.Path.TheVariants.{Fast, Slow, Recovered, Adopted}
use Rattle.acc_message.specs.declared.note.Note.{Note}
use Rattle.acc_message.specs.declared.note.Note.TheVariants.{Begin as BeginNote, Recover as RecoverNote, Blocked as BlockedNote, Ended as EndedNote, Decide as DecideNote, Outcome as OutcomeNote, Reply as ReplyNote}
use Rattle.acc_message.specs.declared.entry.Event.{Event}
use Rattle.acc_message.specs.declared.entry.Event.TheVariants.{Begin as Begins, Recover as Recovers, Slow as GoesSlow, Message as Takes, Restart as Restarts}
use Rattle.acc_message.specs.declared.item.Skip.{Skip}
use Rattle.acc_message.specs.declared.item.Skip.TheVariants.{NoMessage, Down as IsDown, Begun, Unknown, NoQuorum}
use Rattle.acc_message.specs.declared.item.Item.{Item}
use Rattle.acc_message.specs.declared.item.Item.TheVariants.{Step, Skipped, Down as WentDown}
use Rattle.acc_message.specs.Items.{notes_of}
use Rattle.acc_schedule.specs.declared.plan.Print.{Print}
use Rattle.acc_schedule.specs.declared.plan.Print.TheVariants.{Lines, Summary}
use Rattle.acc_report.specs.Report.{number_of, name_at, name_numbered, note_line, skip_line, event_lines, lines_in, lines_from, is_begin, is_reply, decides_by, last_line, decided_line, report_lines}
use Rattle.acc_report_line.specs.Forms.{AreNames, IsCount, HasForm, HaveForms}
use Rattle.acc_report_laws.specs.Fits.{NoteFits, SkipFits, EventFits, ItemFits, ItemsFit}
use Rattle.acc_report_laws.proofs.Called.{is_named, is_called, are_called}

-- ---- items

module _ (names : List (List ℕ)) (numbers : TxnId → Option ℕ) (are : AreNames names) where
  note_formed : (note : Note) → NoteFits names numbers note → HasForm (note_line (λ x. name_numbered names (numbers x)) note)
  note_formed (BeginNote id) h = (is_called names numbers are id h.0, h.1)
  note_formed (RecoverNote id ballot) h = (is_called names numbers are id h.0, h.1)
  note_formed (BlockedNote id ballot by) h = (is_called names numbers are id h.0, h.1, are_called names numbers are by h.2)
  note_formed (EndedNote id ballot by) h = (is_called names numbers are id h.0, h.1, h.2)
  note_formed (DecideNote id t path deps) h = (is_called names numbers are id h.0, h.1, are_called names numbers are (all_ids deps) h.2)
  note_formed (OutcomeNote id reply) h = (is_called names numbers are id h.0, h.1)
  note_formed (ReplyNote id reply) h = (is_called names numbers are id h.0, h.1)

  notes_formed : (notes : List Note) → AllByRecursion (NoteFits names numbers) notes → HaveForms (map (note_line (λ x. name_numbered names (numbers x))) notes)
  notes_formed [] h = tt
  notes_formed (note ∷ notes) h = (note_formed note h.0, notes_formed notes h.1)

  event_formed : (actor : Actor) (event : Event) → EventFits actor event → HaveForms (event_lines actor event)
  event_formed actor (Begins txn) h = tt
  event_formed actor (Recovers txn) h = tt
  event_formed actor (GoesSlow txn) h = tt
  event_formed actor (Takes number) h = tt
  event_formed actor (Restarts kept) h = (h, tt)

  skip_formed : (step : ℕ) (cause : Skip) → IsCount step → SkipFits names cause → HasForm (skip_line (name_at names) step cause)
  skip_formed step (NoMessage number sent) h k = (h, k.0, k.1)
  skip_formed step (IsDown actor) h k = (h, k)
  skip_formed step (Begun txn) h k = (h, is_named names txn are k)
  skip_formed step (Unknown txn) h k = (h, is_named names txn are k)
  skip_formed step (NoQuorum txn) h k = (h, is_named names txn are k)

  item_formed : (item : Item) → ItemFits names numbers item → HaveForms (lines_in (λ x. name_numbered names (numbers x)) (name_at names) item)
  item_formed (Step e) h =
      each_append HasForm (event_lines e.actor e.event) (map (note_line (λ x. name_numbered names (numbers x))) e.emitted.notes)
      (event_formed e.actor e.event h.0) (notes_formed e.emitted.notes h.1)
  item_formed (Skipped step cause) h = (skip_formed step cause h.0 h.1, tt)
  item_formed (WentDown actor) h = (h, tt)

  items_formed : (items : List Item) → AllByRecursion (ItemFits names numbers) items
      → HaveForms (lines_from (λ x. name_numbered names (numbers x)) (name_at names) items)
  items_formed [] h = tt
  items_formed (item ∷ earlier) h =
      each_append HasForm (lines_from (λ x. name_numbered names (numbers x)) (name_at names) earlier) (lines_in (λ x. name_numbered names (numbers x)) (name_at names) item)
      (items_formed earlier h.1) (item_formed item h.0)

-- ---- counts

few : (is : Note → Bool) (notes : List Note) → length notes < 2 ^ 64 → IsCount (count_by is notes)
few is notes h = let k = count_by-le-length is notes in omega arith

fewer : (a b : ℕ) → IsCount a → IsCount (a - b)
fewer a b h = omega arith

last_formed : (notes : List Note) → length notes < 2 ^ 64 → HasForm (last_line notes)
last_formed notes h =
    let begun = few is_begin notes h in
    (begun, few is_reply notes h, fewer (count_by is_begin notes) (count_by is_reply notes) begun)

decided_formed : (notes : List Note) → length notes < 2 ^ 64 → HasForm (decided_line notes)
decided_formed notes h = (few (decides_by Fast) notes h, few (decides_by Slow) notes h, few (decides_by Recovered) notes h, few (decides_by Adopted) notes h)

-- ---- reports

pub lines_formed : (print : Print) (names : List (List ℕ)) (roll : List (TxnId × ℕ)) (items : List Item) → AreNames names → ItemsFit names roll items →
    length (notes_of items) < 2 ^ 64 → HaveForms (report_lines print names roll items)
lines_formed Lines names roll items are fit h =
    each_append HasForm _ (last_line (notes_of items) ∷ []) (items_formed names (number_of roll items) are items fit) (last_formed (notes_of items) h, tt)
lines_formed Summary names roll items are fit h = (decided_formed (notes_of items) h, (last_formed (notes_of items) h, tt))
