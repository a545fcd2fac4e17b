-- A call that answers what reading gives read a spelling, and answers each spelling.
use Rattle.std.proofs.Common.{ℕ, List, Result, Ok, Err, subst}
use Rattle.std.specs.Prelude.{IfOk}
use Rattle.acc_wire.specs.Reading.{Unread, Read, Passes, AreBytes}
use Rattle.acc_wire.proofs.Fields.{IsField}
use Rattle.acc_code.specs.declared.error.CodeError.{CodeError}
use Rattle.acc_code.specs.Reading.{Reads}

module _ {A : Type 0} {Fits : A → Type 0} {bytes : A → List ℕ} {at : Unread → Read A} (field : IsField Fits bytes at) where
  pub reads_found : (r : Result A CodeError) (before after : Unread) → AreBytes before.bytes → Reads r after (at before) → IfOk r (λ x. Passes before after (bytes x))
  reads_found (Ok x) before after are_bytes e = (field.takes before after x are_bytes e).0
  reads_found (Err e) before after are_bytes h = tt

  pub reads_fitting : (r : Result A CodeError) (before after : Unread) → AreBytes before.bytes → Reads r after (at before) → IfOk r Fits
  reads_fitting (Ok x) before after are_bytes e = (field.takes before after x are_bytes e).1
  reads_fitting (Err e) before after are_bytes h = tt

  pub reads_only : (r : Result A CodeError) (before after : Unread) → Reads r after (at before) → (x : A) (rest : Unread) → Fits x → Passes before rest (bytes x) → Reads r after (Ok (x, rest))
  reads_only r before after e x rest fits p = subst (λ (read : Read A). Reads r after read) (field.again before rest x fits p) e
