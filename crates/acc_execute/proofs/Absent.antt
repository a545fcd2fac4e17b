-- A transaction that has no record.
use Rattle.std.proofs.Common.{◌≡◌, Bool, true, false, cond, Option, None, refl, sym, ap, ◌∙◌}
use Rattle.std.specs.Option.{option_map}
use Rattle.acc_stamp.specs.declared.stamps.TxnId.{TxnId}
use Rattle.acc_stamp.specs.Stamp.{id_eq}
use Rattle.acc_stamp.proofs.Order.{id_order}
use Rattle.acc_record.specs.declared.record.Record.{Record}

-- what would change its record changes nothing
pub absent_stays : (at : TxnId → Option Record) (f : Record → Record) (x : TxnId) → at x ≡ None → (y : TxnId) → at y ≡ cond (id_eq x y) (option_map f (at x)) (at y)
absent_stays at f x none y = by (id_eq x y) refl
  where
    by : (b : Bool) → id_eq x y ≡ b → at y ≡ cond b (option_map f (at x)) (at y)
    by true e = ap at (sym ((id_order.decides x y).0 e)) ∙ none ∙ sym (ap (option_map f) none)
    by false e = refl
