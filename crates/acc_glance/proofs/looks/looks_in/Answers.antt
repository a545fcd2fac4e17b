use Rattle.std.proofs.Common.{◌≡◌, None, Err, map, refl, arith}
use Rattle.std.proofs.lemmas.Result.{err_from_is_err_and}
use Rattle.serde_json.specs.View.{view}
use Rattle.acc_schedule.specs.declared.error.PlanError.{PlanError}
use Rattle.acc_document_fields.proofs.EachFacts.{element_fails, list_read, none_read, one_more}
use Rattle.acc_glance.specs.Documents.{look_fault, look_of}
use Rattle.acc_glance.proofs.looks.looks_in.Goals as goal

pub loop-place-init : goal.loop-place-init
loop-place-init c = none_read (look_fault c.args.steps) look_of c.args.items.now c.new-looks.result c.new-looks.ensures

pub loop-place-preserved : goal.loop-place-preserved
loop-place-preserved c =
    one_more (look_fault c.args.steps) look_of c.args.items.now c.loop-place.place c.loop-place.looks c.push.new.self c.index-items-place.result c.in_ok-look.look
    c.loop-place.invariant c.loop-place-test.true c.index-items-place.is c.in_ok-look.ensures.0 c.in_ok-look.ensures.1 c.in_ok-push.ensures.ok

pub returns-in_err-look : goal.returns-in_err-look
returns-in_err-look c =
    let given : PlanError = c.in_err-look.field-0.0 in
    let p : (e : PlanError) × (c.from_residual.result ≡ Err e) × (e ≡ given) = err_from_is_err_and c.from_residual.result c.from_residual.ensures.1 in
    rw (p.1, p.2)
    (element_fails None (look_fault c.args.steps) look_of c.args.items.now (map view c.args.items.now) c.loop-place.place c.loop-place.looks c.index-items-place.result given refl refl
    c.loop-place.invariant c.loop-place-test.true c.index-items-place.is c.in_err-look.ensures)

pub returns : goal.returns
returns c =
    list_read None (look_fault c.args.steps) look_of c.args.items.now (map view c.args.items.now) c.loop-place.place c.loop-place.looks refl refl c.loop-place.invariant
    (omega (arith, c.loop-place-test.false))
