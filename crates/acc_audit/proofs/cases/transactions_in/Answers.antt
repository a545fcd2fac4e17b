use Rattle.std.proofs.Common.{rules, ◌≡◌, [], ◌∷◌, length, length-append, map, Err, sym, ap, ◌∙◌, arith, refl}
use Rattle.std.proofs.lemmas.Result.{err_from_is_err_and}
use Rattle.std.specs.Vec.Iter.{into_iter_items}
use Rattle.serde_json.specs.View.{view}
use Rattle.acc_schedule.specs.declared.error.PlanError.{PlanError}
use Rattle.acc_schedule.specs.Fields.{items}
use Rattle.acc_audit.proofs.CaseFacts.{nothing_read, one_more_transaction, taken_all, taken_at, taken_more, taken_within, transaction_fails, transactions_read}
use Rattle.acc_audit.proofs.cases.transactions_in.Goals as goal

pub loop-item-init : goal.loop-item-init
loop-item-init c =
    let its : into_iter_items c.into_iter-item-iterator.result ≡ c.in_ok-items.items.items = search rules in record {
      can_next = search rules;
      is_finite = search rules;
      rest = refl;
      place = refl;
      few = omega (arith, ap length its, c.in_ok-items.ensures.1.1);
      read = nothing_read c.args.version (into_iter_items c.into_iter-item-iterator.result) c.new.result c.new-2.result c.new.ensures c.new-2.ensures;
    }

pub overflow_add-place : goal.overflow_add-place
overflow_add-place c =
    let before = c.loop-item.invariant in
    let vs = into_iter_items c.into_iter-item-iterator.result in
    let within = taken_within c.loop-item.yielded c.in-Some.item (into_iter_items c.loop-item.item-iterator) (into_iter_items c.next.new.self) vs c.loop-item.place before.rest c.in-Some.ensures.steps.0 before.place in
    omega (arith, within, before.few)

pub loop-item-preserved : goal.loop-item-preserved
loop-item-preserved c =
    let before = c.loop-item.invariant in
    let vs = into_iter_items c.into_iter-item-iterator.result in
    let done = c.loop-item.yielded in
    let item = c.in-Some.item in
    let left = into_iter_items c.loop-item.item-iterator in
    let after = into_iter_items c.next.new.self in
    let next = c.in-Some.ensures.steps.0 in
    let long = length-append done (item ∷ []) in record {
      can_next = search rules;
      is_finite = search rules;
      rest = taken_more done item left after vs before.rest next;
      place = omega (arith, long, before.place);
      few = before.few;
      read =
          one_more_transaction c.args.version vs c.loop-item.place c.loop-item.all.names c.transaction.new.names c.loop-item.all.bodies c.push.new.self
          item c.in_ok-body.body before.read (taken_within done item left after vs c.loop-item.place before.rest next before.place) (taken_at done item left after vs c.loop-item.place before.rest next before.place)
          c.in_ok-body.ensures.0 c.in_ok-body.ensures.1.0 c.in_ok-body.ensures.1.1 c.in_ok-push.ensures.ok;
    }

pub loop-item-preserved-in_ok-push-3 : goal.loop-item-preserved-in_ok-push-3
loop-item-preserved-in_ok-push-3 c =
    let before = c.loop-item.invariant in
    let vs = into_iter_items c.into_iter-item-iterator.result in
    let done = c.loop-item.yielded in
    let item = c.in-Some.item in
    let left = into_iter_items c.loop-item.item-iterator in
    let after = into_iter_items c.next.new.self in
    let next = c.in-Some.ensures.steps.0 in
    let long = length-append done (item ∷ []) in record {
      can_next = search rules;
      is_finite = search rules;
      rest = taken_more done item left after vs before.rest next;
      place = omega (arith, long, before.place);
      few = before.few;
      read =
          one_more_transaction c.args.version vs c.loop-item.place c.loop-item.all.names c.transaction.new.names c.loop-item.all.bodies c.push.new.self
          item c.in_ok-body.body before.read (taken_within done item left after vs c.loop-item.place before.rest next before.place) (taken_at done item left after vs c.loop-item.place before.rest next before.place)
          c.in_ok-body.ensures.0 c.in_ok-body.ensures.1.0 c.in_ok-body.ensures.1.1 c.in_ok-push.ensures.ok;
    }

pub returns-in_err-body : goal.returns-in_err-body
returns-in_err-body c =
    let before = c.loop-item.invariant in
    let vs = into_iter_items c.into_iter-item-iterator.result in
    let done = c.loop-item.yielded in
    let item = c.in-Some.item in
    let left = into_iter_items c.loop-item.item-iterator in
    let after = into_iter_items c.next.new.self in
    let next = c.in-Some.ensures.steps.0 in
    let its : vs ≡ c.in_ok-items.items.items = search rules in
    let given : PlanError = c.in_err-body.field-0.0 in
    let p : (e : PlanError) × (c.from_residual-in_err-body.result ≡ Err e) × (e ≡ given) = err_from_is_err_and c.from_residual-in_err-body.result c.from_residual-in_err-body.ensures.1 in
    rw (p.1, p.2)
    (transaction_fails _ c.args.version vs (items (view c.args.txns)) c.loop-item.place c.loop-item.all.names c.loop-item.all.bodies item given
    c.in_ok-items.ensures.0 (ap (map view) its ∙ c.in_ok-items.ensures.1.0) before.read (taken_within done item left after vs c.loop-item.place before.rest next before.place) (taken_at done item left after vs c.loop-item.place before.rest next before.place) c.in_err-body.ensures)

pub returns : goal.returns
returns c =
    let left = c.loop-item.item-iterator in
    let before = c.loop-item.invariant in
    let vs = into_iter_items c.into_iter-item-iterator.result in
    let its : vs ≡ c.in_ok-items.items.items = search rules in
    let none : length (into_iter_items left) ≡ 0 = sym left.rest.ok.0 ∙ c.in-None.ensures.steps.0 in
    let read = transactions_read _ c.args.version vs (items (view c.args.txns)) c.loop-item.place c.loop-item.all.names c.loop-item.all.bodies
    c.in_ok-items.ensures.0 (ap (map view) its ∙ c.in_ok-items.ensures.1.0) before.read (taken_all c.loop-item.yielded (into_iter_items left) vs c.loop-item.place before.rest none before.place) in
    (read.0, (read.1, read.2))
