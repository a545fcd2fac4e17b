use Rattle.std.proofs.Common.{◌≡◌, Err, arith}
use Rattle.std.proofs.lemmas.Result.{err_from_is_err_and}
use Rattle.serde_json.specs.View.{view}
use Rattle.acc_schedule.specs.declared.error.PlanError.{PlanError}
use Rattle.acc_schedule.specs.Document.{schedule}
use Rattle.acc_schedule.specs.Fields.{items}
use Rattle.acc_schedule.specs.Seen.{seen}
use Rattle.acc_schedule.specs.Steps.{step_fault, step_of}
use Rattle.acc_schedule.proofs.EachFacts.{none_read, one_more, element_fails, list_read}
use Rattle.acc_schedule.proofs.schedule.steps.Goals as goal

pub loop-place-init : goal.loop-place-init
loop-place-init c = none_read (step_fault (seen c.args.cast.now)) (step_of (seen c.args.cast.now)) c.in_ok-items.items.now c.new-steps.result c.new-steps.ensures

pub loop-place-preserved : goal.loop-place-preserved
loop-place-preserved c =
    one_more (step_fault (seen c.args.cast.now)) (step_of (seen c.args.cast.now)) c.in_ok-items.items.now c.loop-place.place c.loop-place.steps c.push.new.self c.index-items-place.result c.in_ok-step.field-0 c.loop-place.invariant c.loop-place-test.true
    c.index-items-place.is c.in_ok-step.ensures.0 c.in_ok-step.ensures.1 c.in_ok-push.ensures.ok

pub returns-in_err-step : goal.returns-in_err-step
returns-in_err-step c =
    let given : PlanError = c.in_err-step.field-0.0 in
    let p : (e : PlanError) × (c.from_residual-in_err-step.result ≡ Err e) × (e ≡ given) = err_from_is_err_and c.from_residual-in_err-step.result c.from_residual-in_err-step.ensures.1 in
    rw (p.1, p.2)
    (element_fails _ (step_fault (seen c.args.cast.now)) (step_of (seen c.args.cast.now)) c.in_ok-items.items.now (items (schedule (view c.args.root.now))) c.loop-place.place c.loop-place.steps c.index-items-place.result given c.in_ok-items.ensures.0 c.in_ok-items.ensures.1.0
    c.loop-place.invariant c.loop-place-test.true c.index-items-place.is c.in_err-step.ensures)

pub returns : goal.returns
returns c =
    let read = list_read _ (step_fault (seen c.args.cast.now)) (step_of (seen c.args.cast.now)) c.in_ok-items.items.now (items (schedule (view c.args.root.now))) c.loop-place.place c.loop-place.steps c.in_ok-items.ensures.0 c.in_ok-items.ensures.1.0 c.loop-place.invariant
    (omega (arith, c.loop-place-test.false)) in
    read
