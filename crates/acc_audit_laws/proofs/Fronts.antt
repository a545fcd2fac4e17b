-- What the lines of pieces say together is what their notes say.
use Rattle.std.proofs.Common.{◌≡◌, ℕ, List, [], ◌∷◌, ◌++◌, map, reverse, Bool, false, ◌||◌, Option, refl, sym, ap, ap₂, ◌∙◌}
use Rattle.std.specs.List.{list_any, flat_map, AllByRecursion}
use Rattle.std.proofs.lemmas.Grind.{flat_map-append}
use Rattle.std.proofs.lemmas.List.Sorted.{list_any-IsPermutation, IsPermutation-reverse}
use Rattle.acc_stamp.specs.declared.stamps.TxnId.{TxnId}
use Rattle.acc_stamp.proofs.Rising.{each_append}
use Rattle.acc_message.specs.declared.note.Note.{Note}
use Rattle.acc_message.specs.declared.item.Item.{Item}
use Rattle.acc_message.specs.declared.item.Item.TheVariants.{Step, Skipped, Down}
use Rattle.acc_message.specs.Items.{notes_of}
use Rattle.acc_report.specs.Report.{note_line}
use Rattle.acc_report_line.specs.declared.line.Line.{Line}
use Rattle.acc_report_laws.specs.Fits.{NoteFits, ItemFits}
use Rattle.acc_audit_laws.proofs.Pieces.{IsSilent, Noted, Piece, Silent, line_of, notes_at}

-- a list in which an element stands
pub note_of_split : (pieces front rest : List Piece) (note : Note) → pieces ≡ front ++ Noted note ∷ rest → flat_map notes_at pieces ≡ flat_map notes_at front ++ note ∷ flat_map notes_at rest
note_of_split pieces front rest note are = ap (flat_map notes_at) are ∙ flat_map-append notes_at front (Noted note ∷ rest)

-- each note of the items fits
pub notes_fit : (names : List (List ℕ)) (numbers : TxnId → Option ℕ) (items : List Item) → AllByRecursion (ItemFits names numbers) items → AllByRecursion (NoteFits names numbers) (notes_of items)
notes_fit names numbers [] fit = tt
notes_fit names numbers (Step e ∷ earlier) fit = each_append (NoteFits names numbers) (notes_of earlier) e.emitted.notes (notes_fit names numbers earlier fit.1) fit.0.1
notes_fit names numbers (Skipped step cause ∷ earlier) fit = each_append (NoteFits names numbers) (notes_of earlier) [] (notes_fit names numbers earlier fit.1) tt
notes_fit names numbers (Down actor ∷ earlier) fit = each_append (NoteFits names numbers) (notes_of earlier) [] (notes_fit names numbers earlier fit.1) tt

module _ (name : TxnId → List ℕ) (called : ℕ → List ℕ) where
  -- a test that no silent line passes is one of notes
  pub told_any : (test : Line → Bool) → ((line : Line) → IsSilent line → test line ≡ false) → (pieces : List Piece)
      → list_any test (map (line_of name called) pieces) ≡ list_any (λ note. test (note_line name note)) (flat_map notes_at pieces)
  told_any test quiet [] = refl
  told_any test quiet (Noted note ∷ pieces) = ap (λ b. test (note_line name note) || b) (told_any test quiet pieces)
  told_any test quiet (Silent line silent ∷ pieces) = ap₂ ◌||◌ (quiet line silent) (told_any test quiet pieces)

  pub told_before : (test : Line → Bool) → ((line : Line) → IsSilent line → test line ≡ false) → (pieces : List Piece)
      → list_any test (reverse (map (line_of name called) pieces)) ≡ list_any (λ note. test (note_line name note)) (flat_map notes_at pieces)
  told_before test quiet pieces =
      sym (list_any-IsPermutation test (map (line_of name called) pieces) (reverse (map (line_of name called) pieces)) (IsPermutation-reverse (map (line_of name called) pieces)))
      ∙ told_any test quiet pieces
