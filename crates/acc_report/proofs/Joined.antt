-- What is printed part by part, as one text.
use Rattle.std.proofs.Common.{◌≡◌, ℕ, ◌+◌, List, [], ◌∷◌, ◌++◌, Some, take, reverse, append_assoc, sym, ap, ◌∙◌}
use Rattle.std.proofs.lemmas.List.{append-nil}
use Rattle.std.proofs.lemmas.Grind.{flat_map-append}
use Rattle.std.specs.List.{slice_get}
use Rattle.acc_stamp.specs.declared.stamps.TxnId.{TxnId}
use Rattle.acc_message.specs.declared.item.Item.{Item}
use Rattle.acc_report.specs.Report.{lines_in, lines_from}
use Rattle.acc_report.proofs.Steps.{reverse_more}
use Rattle.acc_report_line.specs.declared.line.Line.{Line}
use Rattle.acc_report_line.specs.Texts.{full_text, lines_text}

-- four words with a number after each, and the end
pub joined_counts : (before one two three four five a k b l c m d n z : List ℕ) → one ≡ before ++ (a ++ k) → two ≡ one ++ (b ++ l) → three ≡ two ++ (c ++ m) →
    four ≡ three ++ (d ++ n) → five ≡ four ++ z → five ≡ before ++ (a ++ k ++ b ++ l ++ c ++ m ++ d ++ n ++ z)
joined_counts before one two three four five a k b l c m d n z e f g h i =
    i ∙ ap (λ t. t ++ z) (h ∙ ap (λ t. t ++ (d ++ n)) (g ∙ ap (λ t. t ++ (c ++ m)) (f ∙ ap (λ t. t ++ (b ++ l)) e))) ∙ simp append_assoc

-- lines with a last one
pub ended : (lines : List Line) (last : Line) → lines_text (lines ++ last ∷ []) ≡ lines_text lines ++ full_text last
ended lines last = flat_map-append full_text lines (last ∷ []) ∙ ap (λ t. lines_text lines ++ t) (append-nil (full_text last))

-- the lines of the items so far with those of one more
pub one_more : (name : TxnId → List ℕ) (called : ℕ → List ℕ) (items : List Item) (place : ℕ) (item : Item) → slice_get items place ≡ Some item
    → lines_text (lines_from name called (reverse (take place items))) ++ lines_text (lines_in name called item) ≡ lines_text (lines_from name called (reverse (take (place + 1) items)))
one_more name called items place item at =
    sym (flat_map-append full_text (lines_from name called (reverse (take place items))) (lines_in name called item))
    ∙ ap (λ l. lines_text (lines_from name called l)) (sym (reverse_more items place item at))
