use Rattle.std.proofs.Common.{◌≡◌, insert, sym, ◌∙◌, subst}
use Rattle.std.proofs.lemmas.Result.{IfOk-weaker}
use Rattle.acc_stamp.specs.Stamp.{id_lt}
use Rattle.acc_stamp.specs.Rising.{IsPlaceOf, IsGapFor, ids_with}
use Rattle.acc_stamp.proofs.Order.{id_order}
use Rattle.acc_stamp.proofs.Places.{rising_with-place, insert-gap}
use Rattle.acc_deps.proofs.ids.insert_id.Goals as goal

pub returns-in-Ok-clause-ok : goal.returns-in-Ok-clause-ok
returns-in-Ok-clause-ok c =
    let place = subst (λ ids. IsPlaceOf (λ y. y) ids c.args.id c.in-Ok.field-0) c.as_slice.ensures c.in-Ok.ensures in
    sym (rising_with-place id_order c.args.ids.now c.args.id c.in-Ok.field-0 c.requires place)

pub returns-in-Err-clause-ok : goal.returns-in-Err-clause-ok
returns-in-Err-clause-ok c =
    let ids = c.args.ids.now in
    let gap = subst (λ ids. IsGapFor id_lt (λ y. y) ids c.args.id c.in-Err.place) c.as_slice.ensures c.in-Err.ensures in
    IfOk-weaker _ (λ _. c.insert.new.self ≡ insert ids c.in-Err.place c.args.id) (λ _. c.insert.new.self ≡ ids_with c.args.id ids)
    (λ _ e. e ∙ insert-gap id_order ids c.args.id c.in-Err.place gap) c.insert.ensures.ok
