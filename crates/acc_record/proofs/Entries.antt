-- The entries of the records, by their transactions.
use Rattle.std.proofs.Common.{◌≡◌, Bool, true, false, cond, Option, None, Some, refl, sym, ap, ◌∙◌}
use Rattle.acc_stamp.specs.declared.stamps.TxnId.{TxnId}
use Rattle.acc_stamp.specs.Stamp.{id_eq}
use Rattle.acc_stamp.proofs.Order.{id_order}
use Rattle.acc_record.specs.declared.record.Record.{Record}
use Rattle.acc_record.specs.Shelf.{Records, record_at}

same_at : (records : Records) (x y : TxnId) (b : Bool) → id_eq x y ≡ b → record_at records x ≡ None → cond b None (record_at records y) ≡ record_at records y
same_at records x y true e none = sym (ap (record_at records) (sym ((id_order.decides x y).0 e)) ∙ none)
same_at records x y false e none = refl

twice : (b : Bool) (v w : Option Record) → cond b None (cond b v w) ≡ cond b None w
twice true v w = refl
twice false v w = refl

-- what is put and then forgotten leaves the records as they were
pub put_and_forgotten : (old mid new : Records) (x : TxnId) (r : Record) → record_at old x ≡ None
    → ((q : TxnId) → record_at mid q ≡ cond (id_eq x q) (Some r) (record_at old q))
    → ((q : TxnId) → record_at new q ≡ cond (id_eq x q) None (record_at mid q))
    → (q : TxnId) → record_at new q ≡ record_at old q
put_and_forgotten old mid new x r none put forgot q =
    forgot q ∙ ap (cond (id_eq x q) None) (put q) ∙ twice (id_eq x q) (Some r) (record_at old q) ∙ same_at old x q (id_eq x q) refl none

-- nothing is put where the record is there
pub there_already : (records : Records) (x : TxnId) (r : Record) → record_at records x ≡ Some r
    → (y : TxnId) → record_at records y ≡ cond (id_eq x y) (Some r) (record_at records y)
there_already records x r is y = by (id_eq x y) refl
  where
    by : (b : Bool) → id_eq x y ≡ b → record_at records y ≡ cond b (Some r) (record_at records y)
    by true e = ap (record_at records) (sym ((id_order.decides x y).0 e)) ∙ is
    by false e = refl
