-- What the loops that read a repetition answer.
use Rattle.std.proofs.Common.{◌≡◌, ◌<◌, ◌≤◌, ◌+◌, ◌==◌, ℕ, false, List, [], ◌∷◌, ◌++◌, length, Result, Err, IsErrAnd, sym, ap, ◌∙◌, subst, length-append, arith}
use Rattle.std.proofs.lemmas.Result.{err_from_is_err_and}
use Rattle.acc_lang.specs.declared.fault.ReadError.{ReadError}
use Rattle.acc_lang.specs.Answer.{Fails, Gives}
use Rattle.acc_lang.specs.Reading.{Reads}

-- an error that is handed on
pub handed_on : {X Y : Type 0} (view : X → Y) (result : Result X ReadError) (error : ReadError) (rest : List ℕ) (read : Reads Y)
    → IsErrAnd result (λ e. e ≡ error) → Fails error read → Gives view result rest read
handed_on view result error rest read is failed =
    let p = err_from_is_err_and result is in
    subst (λ r. Gives view r rest read) (sym (p.1 ∙ ap Err p.2)) failed

-- one below the most, or not
pub below : (count most : ℕ) → count ≤ most → (count == most) ≡ false → count < most
below count most few room = grind arith

pub one_more : {X : Type 0} (xs ys : List X) (x : X) → ys ≡ xs ++ x ∷ [] → length ys ≡ length xs + 1
one_more xs ys x is = ap length is ∙ length-append xs (x ∷ [])
