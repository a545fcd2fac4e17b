-- An item whose transactions are known has the same lines alone as among others.
use Rattle.std.proofs.Common.{◌≡◌, ℕ, Bool, List, [], ◌∷◌, ◌++◌, map, Option, None, Some, refl, sym, ap, ◌∙◌, subst}
use Rattle.std.specs.List.{AllByRecursion}
use Rattle.acc_base.specs.Faults.{or_else}
use Rattle.acc_stamp.specs.declared.stamps.TxnId.{TxnId}
use Rattle.acc_deps.specs.Deps.{all_ids}
use Rattle.acc_message.specs.declared.note.Note.{Note}
use Rattle.acc_message.specs.declared.note.Note.TheVariants.{Begin as BeginNote, Recover as RecoverNote, Blocked as BlockedNote, Ended as EndedNote, Decide as DecideNote, Outcome as OutcomeNote, Reply as ReplyNote}
use Rattle.acc_message.specs.declared.item.Item.{Item}
use Rattle.acc_message.specs.declared.item.Item.TheVariants.{Step, Skipped, Down as WentDown}
use Rattle.acc_message.specs.Items.{txn_in, txn_of}
use Rattle.acc_report.specs.Report.{number_in, number_of, name_at, name_numbered, name_of, note_line, event_lines, lines_in, lines_of}
use Rattle.acc_report_line.specs.declared.line.Line.TheVariants.{Begin, Recover, Blocked, Ended, Decide, Outcome, Reply}
use Rattle.acc_report.proofs.Steps.{or_else-none, or_else-assoc}
use Rattle.acc_report_laws.specs.Fits.{IsNumbered, IsKnown, NoteFits, ItemFits}

-- ---- numbers

-- what a transaction is known by stays
known_stays : (names : List (List ℕ)) (found more : Option ℕ) → IsNumbered names found → or_else found more ≡ found
known_stays names None more h = absurd h
known_stays names (Some txn) more h = refl

-- what later items give comes after
txn_later : (later items : List Item) (x : TxnId) → (more : Option ℕ) × (txn_of (later ++ items) x ≡ or_else (txn_of items x) more)
txn_later [] items x = (None, sym (or_else-none (txn_of items x)))
txn_later (item ∷ later) items x =
    let rest = txn_later later items x in
    (or_else rest.0 (txn_in x item), ap (λ o. or_else o (txn_in x item)) rest.1 ∙ or_else-assoc (txn_of items x) rest.0 (txn_in x item))

-- what later items give takes no number away
stays : (names : List (List ℕ)) (roll : List (TxnId × ℕ)) (later items : List Item) (x : TxnId) → IsKnown names (number_of roll items) x
    → number_of roll items x ≡ number_of roll (later ++ items) x
stays names roll later items x h =
    let rest = txn_later later items x in
    let joined : number_of roll (later ++ items) x ≡ or_else (number_of roll items x) rest.0 =
    ap (λ o. or_else (number_in roll x) o) rest.1 ∙ sym (or_else-assoc (number_in roll x) (txn_of items x) rest.0) in
    sym (joined ∙ known_stays names (number_of roll items x) rest.0 h)

-- ---- lines by numbers, and by others that agree where a transaction is known

module _ (names : List (List ℕ)) (one other : TxnId → Option ℕ) (agree : (x : TxnId) → IsKnown names one x → one x ≡ other x) where
  called : (x : TxnId) → IsKnown names one x → name_numbered names (one x) ≡ name_numbered names (other x)
  called x h = ap (name_numbered names) (agree x h)

  all_called : (ids : List TxnId) → AllByRecursion (IsKnown names one) ids
      → map (λ x. name_numbered names (one x)) ids ≡ map (λ x. name_numbered names (other x)) ids
  all_called [] h = refl
  all_called (x ∷ xs) h =
      ap (λ n. n ∷ map (λ y. name_numbered names (one y)) xs) (called x h.0)
      ∙ ap (λ ns. name_numbered names (other x) ∷ ns) (all_called xs h.1)

  note_same : (note : Note) → NoteFits names one note
      → note_line (λ x. name_numbered names (one x)) note ≡ note_line (λ x. name_numbered names (other x)) note
  note_same (BeginNote id) h = ap (λ n. Begin n id.0) (called id h.0)
  note_same (RecoverNote id ballot) h = ap (λ n. Recover n ballot.0) (called id h.0)
  note_same (BlockedNote id ballot by) h =
      ap (λ n. Blocked n ballot.0 (map (λ x. name_numbered names (one x)) by)) (called id h.0)
      ∙ ap (λ ns. Blocked (name_numbered names (other id)) ballot.0 ns) (all_called by h.2)
  note_same (EndedNote id ballot by) h = ap (λ n. Ended n ballot.0 by.0) (called id h.0)
  note_same (DecideNote id t path deps) h =
      ap (λ n. Decide n t path (map (λ x. name_numbered names (one x)) (all_ids deps))) (called id h.0)
      ∙ ap (λ ns. Decide (name_numbered names (other id)) t path ns) (all_called (all_ids deps) h.2)
  note_same (OutcomeNote id reply) h = ap (λ n. Outcome n reply) (called id h.0)
  note_same (ReplyNote id reply) h = ap (λ n. Reply n reply) (called id h.0)

  notes_same : (notes : List Note) → AllByRecursion (NoteFits names one) notes
      → map (note_line (λ x. name_numbered names (one x))) notes ≡ map (note_line (λ x. name_numbered names (other x))) notes
  notes_same [] h = refl
  notes_same (note ∷ notes) h =
      ap (λ l. l ∷ map (note_line (λ x. name_numbered names (one x))) notes) (note_same note h.0)
      ∙ ap (λ ls. note_line (λ x. name_numbered names (other x)) note ∷ ls) (notes_same notes h.1)

  item_same : (item : Item) → ItemFits names one item
      → lines_in (λ x. name_numbered names (one x)) (name_at names) item ≡ lines_in (λ x. name_numbered names (other x)) (name_at names) item
  item_same (Step e) h = ap (λ ls. event_lines e.actor e.event ++ ls) (notes_same e.emitted.notes h.1)
  item_same (Skipped step cause) h = refl
  item_same (WentDown actor) h = refl

-- ---- an item among others

module _ (names : List (List ℕ)) (roll : List (TxnId × ℕ)) (later : List Item) (item : Item) (earlier : List Item) where
  pub same_later : ItemFits names (number_of roll (item ∷ earlier)) item
      → lines_in (name_of names roll (item ∷ earlier)) (name_at names) item ≡ lines_in (name_of names roll (later ++ item ∷ earlier)) (name_at names) item
  same_later h =
      item_same names (number_of roll (item ∷ earlier)) (number_of roll (later ++ item ∷ earlier)) (stays names roll later (item ∷ earlier)) item h

  module _ (known : List (TxnId × ℕ)) (same : (x : TxnId) → number_in known x ≡ number_of roll earlier x) where
    so_far : (x : TxnId) → number_of known (item ∷ []) x ≡ number_of roll (item ∷ earlier) x
    so_far x = ap (λ o. or_else o (txn_in x item)) (same x) ∙ or_else-assoc (number_in roll x) (txn_of earlier x) (txn_in x item)

    agree : (x : TxnId) → IsKnown names (number_of known (item ∷ [])) x → number_of known (item ∷ []) x ≡ number_of roll (later ++ item ∷ earlier) x
    agree x h = so_far x ∙ stays names roll later (item ∷ earlier) x (subst (IsNumbered names) (so_far x) h)

    pub same_alone : ItemFits names (number_of known (item ∷ [])) item
        → lines_of names known (item ∷ []) ≡ lines_in (name_of names roll (later ++ item ∷ earlier)) (name_at names) item
    same_alone h = item_same names (number_of known (item ∷ [])) (number_of roll (later ++ item ∷ earlier)) agree item h
