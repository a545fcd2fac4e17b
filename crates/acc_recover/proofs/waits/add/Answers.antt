use Rattle.std.proofs.Common.{◌≡◌, List, insert, Result, Ok, Err, OnOk, OnErr, sym, ◌∙◌, subst, refl}
use Rattle.std.proofs.lemmas.Result.{IfOk-weaker}
use Rattle.acc_stamp.specs.declared.stamps.TxnId.{TxnId}
use Rattle.acc_stamp.specs.Stamp.{id_lt}
use Rattle.acc_stamp.specs.Rising.{IsRising, IsPlaceOf, IsGapFor, ids_with}
use Rattle.acc_stamp.proofs.Order.{id_order, id_cmp_total, id_cmp_exact}
use Rattle.acc_stamp.proofs.Places.{searched, rising_with-place, insert-gap}
use Rattle.acc_stamp.proofs.Rising.{IsRisingBy-with}
use Rattle.acc_recover.proofs.waits.add.Goals as goal

rises_either_way : {T E : Type 0} (r : Result T E) (new old : List TxnId) (id : TxnId) → OnOk r (new ≡ ids_with id old) → OnErr r (new ≡ old) → IsRising old
    → IsRising new
rises_either_way (Ok x) new old id ok err rises = subst IsRising (sym ok) (IsRisingBy-with id_order id old rises)
rises_either_way (Err e) new old id ok err rises = subst IsRising (sym err) rises

pub returns-in-Ok-clause-ok : goal.returns-in-Ok-clause-ok
returns-in-Ok-clause-ok c =
    let rises = subst IsRising (sym c.as_slice.ensures) c.requires in
    let found = searched id_cmp_total id_cmp_exact (λ a b. refl) (λ y. y) c.as_slice.result.now c.args.id (Ok c.in-Ok.field-0) rises c.in-Ok.ensures.bound c.in-Ok.ensures.position in
    let place = subst (λ ids. IsPlaceOf (λ y. y) ids c.args.id c.in-Ok.field-0) c.as_slice.ensures found in
    sym (rising_with-place id_order c.args.ids.now c.args.id c.in-Ok.field-0 c.requires place)

pub returns-in-Err-clause-ok : goal.returns-in-Err-clause-ok
returns-in-Err-clause-ok c =
    let ids = c.args.ids.now in
    let rises = subst IsRising (sym c.as_slice.ensures) c.requires in
    let found = searched id_cmp_total id_cmp_exact (λ a b. refl) (λ y. y) c.as_slice.result.now c.args.id (Err c.in-Err.place) rises c.in-Err.ensures.bound c.in-Err.ensures.position in
    let gap = subst (λ ids. IsGapFor id_lt (λ y. y) ids c.args.id c.in-Err.place) c.as_slice.ensures found in
    IfOk-weaker _ (λ _. c.insert.new.self ≡ insert ids c.in-Err.place c.args.id) (λ _. c.insert.new.self ≡ ids_with c.args.id ids)
    (λ _ e. e ∙ insert-gap id_order ids c.args.id c.in-Err.place gap) c.insert.ensures.ok

pub returns-in-Err-clause-rises : goal.returns-in-Err-clause-rises
returns-in-Err-clause-rises c =
    rises_either_way c.insert.result c.insert.new.self c.args.ids.now c.args.id (returns-in-Err-clause-ok c) c.insert.ensures.err c.requires
