-- What holds of the items so far, after one more.
use Rattle.std.proofs.Common.{◌≡◌, ℕ, ◌+◌, ◌<◌, List, [], ◌∷◌, ◌++◌, length, get_or, take, reverse, Option, None, Some, cond, inl, inr, refl, sym, ap, ◌∙◌}
use Rattle.std.proofs.lemmas.List.{take_more, reverse-append}
use Rattle.std.specs.List.{slice_get}
use Rattle.std.proofs.lemmas.Option.{slice_get_within, get_or_from_slice_get}
use Rattle.acc_base.specs.Faults.{or_else}
use Rattle.std.proofs.lemmas.Bool.{cases_Bool}
use Rattle.acc_stamp.specs.declared.stamps.TxnId.{TxnId}
use Rattle.acc_stamp.specs.Stamp.{id_eq}
use Rattle.acc_report.specs.Report.{number_in}

-- the items so far, the newest first, with one more
pub reverse_more : {X : Type 0} (items : List X) (i : ℕ) (item : X) → slice_get items i ≡ Some item → reverse (take (i + 1) items) ≡ item ∷ reverse (take i items)
reverse_more items i item at =
    ap reverse (take_more items i item (slice_get_within items i item at) ∙ ap (λ y. take i items ++ y ∷ []) (get_or_from_slice_get items i item item at))
    ∙ reverse-append (take i items) (item ∷ [])

pub or_else-none : (a : Option ℕ) → or_else a None ≡ a
or_else-none None = refl
or_else-none (Some x) = refl

pub or_else-assoc : (a b c : Option ℕ) → or_else (or_else a b) c ≡ or_else a (or_else b c)
or_else-assoc None b c = refl
or_else-assoc (Some x) b c = refl

-- what a roll gives with one more entry
number_in-push : (roll : List (TxnId × ℕ)) (entry : TxnId × ℕ) (x : TxnId) →
    number_in (roll ++ entry ∷ []) x ≡ or_else (number_in roll x) (cond (id_eq entry.0 x) (Some entry.1) None)
number_in-push [] entry x = refl
number_in-push (e ∷ roll) entry x =
    elim (cases_Bool (id_eq e.0 x)) [
      | inl is ↦ rw is refl
      | inr other ↦ rw other (number_in-push roll entry x)
    ]

pub number_in_more : (roll : List (TxnId × ℕ)) (i : ℕ) (d : TxnId × ℕ) (found before : Option ℕ) (x : TxnId) → i < length roll →
    found ≡ or_else before (cond (id_eq (get_or roll i d).0 x) (Some (get_or roll i d).1) None) → before ≡ number_in (take i roll) x →
    found ≡ number_in (take (i + 1) roll) x
number_in_more roll i d found before x h e f =
    e ∙ ap (λ o. or_else o (cond (id_eq (get_or roll i d).0 x) (Some (get_or roll i d).1) None)) f
    ∙ sym (ap (λ l. number_in l x) (take_more roll i d h) ∙ number_in-push (take i roll) (get_or roll i d) x)
