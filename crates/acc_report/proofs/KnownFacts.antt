-- Numbers that are known stay known.
use Rattle.std.proofs.Common.{◌≡◌, ℕ, Bool, true, false, cond, List, get_or, Option, Some, None, IfSome, is_some, refl, sym, ap, ◌∙◌, arith, true≢false}
use Rattle.std.specs.Ordering.{is_eq}
use Rattle.std.proofs.lemmas.Bool.Decides.{nat_tests}
use Rattle.acc_stamp.specs.declared.stamps.TxnId.{TxnId}
use Rattle.acc_stamp.specs.Stamp.{id_cmp, id_eq}
use Rattle.acc_stamp.proofs.Order.{id_order}
use Rattle.acc_report.specs.Known.{Numbers, number_at, AreKnown}

-- the entries of a table where no number is lost
pub still_known : (old new : Numbers) (entries : List (Option (TxnId × ℕ))) → ((x : TxnId) (n : ℕ) → number_at old x ≡ Some n → number_at new x ≡ Some n)
    → AreKnown old entries → AreKnown new entries
still_known old new entries stays h k d lt = step (get_or entries k d) (h k d lt)
  where
    step : (entry : Option (TxnId × ℕ)) → IfSome entry (λ e. number_at old e.0 ≡ Some e.1) → IfSome entry (λ e. number_at new e.0 ≡ Some e.1)
    step None h = tt
    step (Some e) h = stays e.0 e.1 h

at_id : (x y : TxnId) → is_eq (id_cmp x y) ≡ id_eq x y
at_id x y = grind (arith, nat_tests)

-- a number, where another is put under an id that had none
pub number_stays : (old new : Numbers) (id x : TxnId) (txn n : ℕ) → is_some (number_at old id) ≡ false
    → ((q : TxnId) → number_at new q ≡ cond (is_eq (id_cmp id q)) (Some txn) (number_at old q)) → number_at old x ≡ Some n → number_at new x ≡ Some n
number_stays old new id x txn n none put is = by (is_eq (id_cmp id x)) refl
  where
    by : (b : Bool) → is_eq (id_cmp id x) ≡ b → number_at new x ≡ Some n
    by true e =
        let same : id ≡ x = (id_order.decides id x).0 (sym (at_id id x) ∙ e) in
        absurd (true≢false (sym (ap is_some is) ∙ sym (ap (λ (y : TxnId). is_some (number_at old y)) same) ∙ none))
    by false e = put x ∙ ap (λ (b : Bool). cond b (Some txn) (number_at old x)) e ∙ is
