-- The id that a begin drew, as it is looked for.
use Rattle.std.proofs.Common.{◌≡◌, ℕ, suc, ◌<◌, List, ◌∷◌, Some, length, get_or, drop, drop-cons, sym, ap, ◌∙◌}
use Rattle.acc_stamp.specs.declared.stamps.TxnId.{TxnId}
use Rattle.acc_message.specs.declared.note.Note.{Note}
use Rattle.acc_message.specs.declared.note.Note.TheVariants.{Begin as BeginNote}
use Rattle.acc_message.specs.Items.{id_drawn}

pub drawn_at : (notes : List Note) (index : ℕ) (x : Note) (id : TxnId) → index < length notes → x ≡ get_or notes index x → x ≡ BeginNote id → id_drawn (drop index notes) ≡ Some id
drawn_at notes index x id low at is =
    ap id_drawn (drop-cons notes index x low) ∙ ap (λ y. id_drawn (y ∷ drop (suc index) notes)) (sym at ∙ is)
