-- Transactions that are known have names with forms.
use Rattle.std.proofs.Common.{◌≡◌, ℕ, ◌<◌, Bool, true, false, List, [], ◌∷◌, length, map, get_or, Option, None, Some, inl, inr, refl, sym, ap, ◌∙◌}
use Rattle.std.specs.Prelude.{◌&&◌}
use Rattle.std.specs.List.{AllByRecursion, list_all}
use Rattle.std.proofs.lemmas.Bool.{cases_Bool}
use Rattle.std.proofs.lemmas.List.Folds.{list_all_at}
use Rattle.std.proofs.lemmas.Option.{unwrap_or-slice_get}
use Rattle.acc_stamp.specs.declared.stamps.TxnId.{TxnId}
use Rattle.acc_report.specs.Report.{name_at, name_numbered}
use Rattle.acc_report_line.specs.Forms.{is_name, IsName, AreNames}
use Rattle.acc_report_laws.specs.Fits.{IsNamed, IsNumbered, IsKnown}

named_there : (names : List (List ℕ)) (txn : ℕ) → AreNames names → txn < length names → is_name (get_or names txn []) ≡ true
named_there names txn are within =
    elim (cases_Bool (is_name (get_or names txn []))) [
      | inl is ↦ is
      | inr none ↦ let wrong : true ≡ false = sym are ∙ list_all_at is_name names txn [] within none in cc
    ]

pub is_named : (names : List (List ℕ)) (txn : ℕ) → AreNames names → IsNamed names txn → IsName (name_at names txn)
is_named names txn are within = ap is_name (unwrap_or-slice_get names txn []) ∙ named_there names txn are within

pub is_numbered : (names : List (List ℕ)) (found : Option ℕ) → AreNames names → IsNumbered names found → IsName (name_numbered names found)
is_numbered names None are h = absurd h
is_numbered names (Some txn) are h = is_named names txn are h

module _ (names : List (List ℕ)) (numbers : TxnId → Option ℕ) (are : AreNames names) where
  pub is_called : (x : TxnId) → IsKnown names numbers x → IsName (name_numbered names (numbers x))
  is_called x h = is_numbered names (numbers x) are h

  pub are_called : (ids : List TxnId) → AllByRecursion (IsKnown names numbers) ids → AreNames (map (λ x. name_numbered names (numbers x)) ids)
  are_called [] h = refl
  are_called (x ∷ xs) h = rw (is_called x h.0) (are_called xs h.1)
