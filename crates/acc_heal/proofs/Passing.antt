-- A result that is returned as it comes.
use Rattle.std.proofs.Common.{Result, Ok, Err}
use Rattle.std.specs.Prelude.{IfErr, OnOk}

pub taken_through : {X E P Q : Type 0} (result : Result X E) → OnOk result P → (P → Q) → OnOk result Q
taken_through (Ok x) p f = f p
taken_through (Err e) p f = tt

pub ended_through : {X E : Type 0} (result : Result X E) (P Q : E → Type 0) → IfErr result P → ((e : E) → P e → Q e) → IfErr result Q
ended_through (Ok x) P Q p f = tt
ended_through (Err e) P Q p f = f e p
