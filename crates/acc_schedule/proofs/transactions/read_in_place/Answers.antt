use Rattle.std.proofs.Common.{◌≡◌, Err, arith}
use Rattle.std.proofs.lemmas.Result.{err_from_is_err_and}
use Rattle.serde_json.specs.View.{view}
use Rattle.acc_topology.specs.Sets.{in_set}
use Rattle.acc_schedule.specs.declared.error.PlanError.{PlanError}
use Rattle.acc_schedule.specs.Document.{txns}
use Rattle.acc_schedule.specs.Fields.{items}
use Rattle.acc_schedule.proofs.TransactionFacts.{few_names, none_keep, nothing_read, one_more_keeps, one_more_transaction, transaction_fails, transactions_read}
use Rattle.acc_schedule.proofs.transactions.read_in_place.Goals as goal

pub loop-place-init : goal.loop-place-init
loop-place-init c =
    (nothing_read c.args.version (in_set c.args.nodes) c.in_ok-items.items.now c.new.result c.new-2.result c.new-3.result c.new.ensures c.new-2.ensures c.new-3.ensures, c.in_ok-items.ensures.1.1, none_keep c.new-3.result c.new-3.ensures)

pub loop-place-preserved : goal.loop-place-preserved
loop-place-preserved c = (
  one_more_transaction c.args.version (in_set c.args.nodes) c.in_ok-items.items.now c.loop-place.place c.loop-place.all.names c.transaction.new.names c.loop-place.all.homes c.push.new.self c.loop-place.all.bodies c.push-in-loop-place.new.self
      c.index-items-place.result c.in_ok-home.home c.in_ok-home.body c.loop-place.invariant.0 c.loop-place-test.true c.index-items-place.is c.in_ok-home.ensures.0 c.in_ok-home.ensures.1.0 c.in_ok-home.ensures.1.1
      c.in_ok-home.ensures.1.2 c.in_ok-push.ensures.ok c.in_ok-push-2.ensures.ok,
  c.loop-place.invariant.1,
  one_more_keeps c.loop-place.all.bodies c.in_ok-home.body c.push-in-loop-place.new.self c.in_ok-push-2.ensures.ok c.loop-place.invariant.2 c.in_ok-home.ensures.1.3,
)

pub transaction-requires : goal.transaction-requires
transaction-requires c =
    few_names c.args.version (in_set c.args.nodes) c.in_ok-items.items.now c.loop-place.place c.loop-place.all.names c.loop-place.all.homes c.loop-place.all.bodies c.loop-place.invariant.0 c.loop-place-test.true c.loop-place.invariant.1

pub returns-in_err-home : goal.returns-in_err-home
returns-in_err-home c =
    let given : PlanError = c.in_err-home.field-0.0 in
    let p : (e : PlanError) × (c.from_residual-in_err-home.result ≡ Err e) × (e ≡ given) = err_from_is_err_and c.from_residual-in_err-home.result c.from_residual-in_err-home.ensures.1 in
    rw (p.1, p.2)
    (transaction_fails _ c.args.version (in_set c.args.nodes) c.in_ok-items.items.now (items (txns (view c.args.root.now))) c.loop-place.place c.loop-place.all.names c.loop-place.all.homes c.loop-place.all.bodies c.index-items-place.result given
    c.in_ok-items.ensures.0 c.in_ok-items.ensures.1.0 c.loop-place.invariant.0 c.loop-place-test.true c.index-items-place.is c.in_err-home.ensures)

pub returns : goal.returns
returns c =
    let read = transactions_read _ c.args.version (in_set c.args.nodes) c.in_ok-items.items.now (items (txns (view c.args.root.now))) c.loop-place.place c.loop-place.all.names c.loop-place.all.homes c.loop-place.all.bodies
    c.in_ok-items.ensures.0 c.in_ok-items.ensures.1.0 c.loop-place.invariant.0 (omega (arith, c.loop-place-test.false)) in
    (read.0, (read.1, read.2, read.3, c.loop-place.invariant.2))
