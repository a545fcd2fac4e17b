-- The report of a run has its counts in its last line, and nowhere else.
use Rattle.std.proofs.Common.{◌≡◌, ℕ, ◌+◌, ◌-◌, ◌==◌, ◌≤◌, List, [], ◌∷◌, ◌++◌, map, count_by, Bool, true, false, not, ◌&&◌, refl, sym, ap, ◌∙◌, arith}
use Rattle.std.specs.List.{flat_map}
use Rattle.std.proofs.lemmas.Bool.{and_from, eq-eqb}
use Rattle.acc_stamp.specs.declared.stamps.TxnId.{TxnId}
use Rattle.acc_topology.proofs.Bits.{count_by-cons, one_if}
use Rattle.acc_message.specs.declared.note.Note.{Note}
use Rattle.acc_message.specs.declared.note.Note.TheVariants.{Begin, Recover, Blocked, Ended, Decide, Outcome, Reply}
use Rattle.acc_message.specs.declared.item.Item.{Item}
use Rattle.acc_message.specs.Items.{notes_of}
use Rattle.acc_schedule.specs.Content.{Content}
use Rattle.acc_report.specs.Report.{is_begin, is_reply, last_line, name_at, note_line}
use Rattle.acc_report_line.specs.declared.line.Line.{Line}
use Rattle.acc_audit.specs.Said.{is_begin as line_is_begin, is_reply as line_is_reply}
use Rattle.acc_audit.specs.Rules.{ends_wrongly}
use Rattle.acc_audit_laws.proofs.BeginsOnce.{count_append}
use Rattle.acc_audit_laws.proofs.Given.{line_of, name, pieces_of}
use Rattle.acc_audit_laws.proofs.Pieces.{IsSilent, Noted, notes_are, notes_at, Piece, Silent}

pub note_ends_nothing : (named : TxnId → List ℕ) (lines : List Line) (note : Note) → ends_wrongly lines false (note_line named note) ≡ false
note_ends_nothing named lines (Begin id) = refl
note_ends_nothing named lines (Recover id ballot) = refl
note_ends_nothing named lines (Blocked id ballot by) = refl
note_ends_nothing named lines (Ended id ballot by) = refl
note_ends_nothing named lines (Decide id t path deps) = refl
note_ends_nothing named lines (Outcome id reply) = refl
note_ends_nothing named lines (Reply id reply) = refl

module _ (plan : Content) (items : List Item) where
  abbrev named : TxnId → List ℕ
  named = name plan items

  -- as many lines pass a test as notes pass another
  told_count : (test : Line → Bool) (of_note : Note → Bool) → ((note : Note) → test (note_line named note) ≡ of_note note) → ((line : Line) → IsSilent line → test line ≡ false)
      → (pieces : List Piece) → count_by test (map (line_of plan items) pieces) ≡ count_by of_note (flat_map notes_at pieces)
  told_count test of_note same quiet [] = refl
  told_count test of_note same quiet (Noted note ∷ pieces) =
      let here : one_if (test (note_line named note)) ≡ one_if (of_note note) = ap one_if (same note) in
      omega (
        arith,
        here,
        count_by-cons test (note_line named note) (map (line_of plan items) pieces),
        count_by-cons of_note note (flat_map notes_at pieces),
        told_count test of_note same quiet pieces,
      )
  told_count test of_note same quiet (Silent line silent ∷ pieces) =
      let here : one_if (test line) ≡ 0 = ap one_if (quiet line silent) in
      omega (arith, here, count_by-cons test line (map (line_of plan items) pieces), told_count test of_note same quiet pieces)

  same_begin : (note : Note) → line_is_begin (note_line named note) ≡ is_begin note
  same_begin (Begin id) = refl
  same_begin (Recover id ballot) = refl
  same_begin (Blocked id ballot by) = refl
  same_begin (Ended id ballot by) = refl
  same_begin (Decide id t path deps) = refl
  same_begin (Outcome id reply) = refl
  same_begin (Reply id reply) = refl

  same_reply : (note : Note) → line_is_reply (note_line named note) ≡ is_reply note
  same_reply (Begin id) = refl
  same_reply (Recover id ballot) = refl
  same_reply (Blocked id ballot by) = refl
  same_reply (Ended id ballot by) = refl
  same_reply (Decide id t path deps) = refl
  same_reply (Outcome id reply) = refl
  same_reply (Reply id reply) = refl

  abbrev lines : List Line
  lines = map (line_of plan items) (pieces_of plan items) ++ last_line (notes_of items) ∷ []

  all_counted : (test : Line → Bool) (of_note : Note → Bool) → ((note : Note) → test (note_line named note) ≡ of_note note) → ((line : Line) → IsSilent line → test line ≡ false)
      → test (last_line (notes_of items)) ≡ false → count_by test lines ≡ count_by of_note (notes_of items)
  all_counted test of_note same quiet none =
      let whole : count_by test (map (line_of plan items) (pieces_of plan items)) ≡ count_by of_note (notes_of items) =
      told_count test of_note same quiet (pieces_of plan items) ∙ ap (count_by of_note) (notes_are named (name_at plan.names) items) in
      let nothing : count_by test [] ≡ 0 = refl in
      let here : one_if (test (last_line (notes_of items))) ≡ 0 = ap one_if none in
      omega (
        arith,
        count_append test (map (line_of plan items) (pieces_of plan items)) (last_line (notes_of items) ∷ []),
        count_by-cons test (last_line (notes_of items)) [],
        here,
        nothing,
        whole,
      )

  -- the last line has the counts of all lines
  pub end_is_right : count_by is_reply (notes_of items) ≤ count_by is_begin (notes_of items) → ends_wrongly lines true (last_line (notes_of items)) ≡ false
  end_is_right few =
      let begun : ℕ = count_by is_begin (notes_of items) in
      let replied : ℕ = count_by is_reply (notes_of items) in
      let begins : (begun == count_by line_is_begin lines) ≡ true =
      eq-eqb begun (count_by line_is_begin lines) (sym (all_counted line_is_begin is_begin same_begin (λ line (silent : IsSilent line). silent.is_begin) refl)) in
      let replies : (replied == count_by line_is_reply lines) ≡ true =
      eq-eqb replied (count_by line_is_reply lines) (sym (all_counted line_is_reply is_reply same_reply (λ line (silent : IsSilent line). silent.is_reply) refl)) in
      let sum : (replied + (begun - replied) == begun) ≡ true = eq-eqb (replied + (begun - replied)) begun (omega (arith, few)) in
      ap not
      (and_from ((begun == count_by line_is_begin lines) && (replied == count_by line_is_reply lines)) (replied + (begun - replied) == begun)
      (and_from (begun == count_by line_is_begin lines) (replied == count_by line_is_reply lines) begins replies) sum)
