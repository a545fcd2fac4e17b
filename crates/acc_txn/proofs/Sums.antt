-- Sums that overflow.
use Rattle.std.proofs.Common.{◌≡◌, ℕ, ◌<◌, ◌+◌, List, [], ◌∷◌, Option, ℤ, Result, Ok, Err, IsErr, length, get_or, drop, refl, sym, ap, ◌∙◌}
use Rattle.std.specs.List.{fold}
use Rattle.std.proofs.lemmas.List.{at_drop_more}
use Rattle.acc_value.specs.declared.value.Value.{Value}
use Rattle.acc_txn.specs.declared.parts.Part.{Part}
use Rattle.acc_txn.specs.declared.evaluate.Overflow.{Overflow}
use Rattle.acc_txn.specs.Meaning.{and_plus, term_cell, summand, plus}

-- an overflow stays one, whatever terms follow
pub fold_overflow : (bound : List (Option Value)) (error : Overflow) (terms : List Part) → fold (and_plus bound) (Err error) terms ≡ Err error
fold_overflow bound error [] = refl
fold_overflow bound error (part ∷ terms) = fold_overflow bound error terms

pub is_overflow : {T : Type 0} (r : Result T Overflow) (error : Overflow) → IsErr r → r ≡ Err error
is_overflow (Ok x) error h = cc
is_overflow (Err e) error h = refl

-- where a partial sum overflows, the whole sum does
pub sum_overflows : (bound : List (Option Value)) (terms : List Part) (i : ℕ) (d : Part) (total cell : Option ℤ) (error : Overflow) (whole : Result (Option ℤ) Overflow) → i < length terms → fold (and_plus bound) (Ok total) (drop i terms) ≡ whole → cell ≡ summand (term_cell bound (get_or terms i d).term) → Err error ≡ plus total (get_or terms i d).minus cell → Err error ≡ whole
sum_overflows bound terms i d total cell error whole within left is stops =
    sym (fold_overflow bound error (drop (i + 1) terms))
    ∙ ap (λ r. fold (and_plus bound) r (drop (i + 1) terms)) (stops ∙ ap (plus total (get_or terms i d).minus) is)
    ∙ sym (at_drop_more (λ ts. fold (and_plus bound) (Ok total) ts) terms i d within)
    ∙ left
