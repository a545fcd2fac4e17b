-- A step that gives nothing makes the whole give nothing.
use Rattle.std.proofs.Common.{◌≡◌, Option, None, Result, Err, sym, ap, ◌∙◌, subst}
use Rattle.std.specs.Result.{IsErrAnd}
use Rattle.std.proofs.lemmas.Result.{err_from_is_err_and}
use Rattle.acc_report_reader.specs.declared.refusal.Refusal.{Refusal}
use Rattle.acc_report_reader.specs.declared.refusal.Refusal.TheVariants.{Form, Memory}
use Rattle.acc_report_reader.specs.Gives.{Refuses, Gives}

refused : {X Y : Type 0} (refusal : Refusal) (step : Option X) (whole : Option Y) → Refuses refusal step → (step ≡ None → whole ≡ None) → Refuses refusal whole
refused Form step whole h so = so h
refused Memory step whole h so = tt

pub fails : {X Y : Type 0} (refusal : Refusal) (result : Result Y Refusal) (step : Option X) (whole : Option Y) → IsErrAnd result (λ e. e ≡ refusal) → Refuses refusal step → (step ≡ None → whole ≡ None)
    → Gives (λ y. y) result whole
fails {X} {Y} refusal result step whole e h so =
    let P : Result Y Refusal → Type 0 = λ r. Gives (λ y. y) r whole in
    let p = err_from_is_err_and result e in
    let is : result ≡ Err refusal = p.1 ∙ ap (λ e. Err e) p.2 in
    subst P (sym is) (refused refusal step whole h so)
