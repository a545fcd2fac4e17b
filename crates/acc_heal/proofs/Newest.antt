-- The newest item, and the ballot that it draws.
use Rattle.std.proofs.Common.{◌≡◌, ℕ, ◌+◌, List, length, Some, reverse, sym, ◌∙◌, ap, arith}
use Rattle.std.specs.List.{slice_get}
use Rattle.std.proofs.lemmas.List.{take_all}
use Rattle.acc_stamp.specs.declared.stamps.TxnId.{TxnId}
use Rattle.acc_message.specs.declared.item.Item.{Item}
use Rattle.acc_message.specs.Items.{noted_in}
use Rattle.acc_report.proofs.Steps.{reverse_more}
use Rattle.acc_heal_laws.specs.Stages.{newest_ballot, ballot_in}

-- the item at the last place is the newest
pub newest_at : (x : TxnId) (items : List Item) (place : ℕ) (item : Item) → place + 1 ≡ length items → slice_get items place ≡ Some item
    → newest_ballot x (reverse items) ≡ ballot_in x (noted_in item)
newest_at x items place item last at =
    ap (newest_ballot x) (ap reverse (sym (take_all (place + 1) items (omega (arith, last)))) ∙ reverse_more items place item at)
