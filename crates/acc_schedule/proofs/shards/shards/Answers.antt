use Rattle.std.proofs.Common.{◌≡◌, Err, arith}
use Rattle.std.proofs.lemmas.Result.{err_from_is_err_and}
use Rattle.serde_json.specs.View.{view}
use Rattle.acc_schedule.specs.declared.error.PlanError.{PlanError}
use Rattle.acc_schedule.specs.Document.{shards}
use Rattle.acc_schedule.specs.Fields.{items}
use Rattle.acc_schedule.specs.Shards.{shard_fault, shard_of}
use Rattle.acc_schedule.proofs.EachFacts.{none_read, one_more, element_fails, list_read, read_few}
use Rattle.acc_schedule.proofs.shards.shards.Goals as goal

pub loop-place-init : goal.loop-place-init
loop-place-init c = none_read shard_fault shard_of c.in_ok-items.items.now c.new-shards.result c.new-shards.ensures

pub loop-place-preserved : goal.loop-place-preserved
loop-place-preserved c =
    one_more shard_fault shard_of c.in_ok-items.items.now c.loop-place.place c.loop-place.shards c.push.new.self c.index-items-place.result c.in_ok-shard.field-0 c.loop-place.invariant c.loop-place-test.true
    c.index-items-place.is c.in_ok-shard.ensures.0 c.in_ok-shard.ensures.1 c.in_ok-push.ensures.ok

pub returns-in_err-shard : goal.returns-in_err-shard
returns-in_err-shard c =
    let given : PlanError = c.in_err-shard.field-0.0 in
    let p : (e : PlanError) × (c.from_residual-in_err-shard.result ≡ Err e) × (e ≡ given) = err_from_is_err_and c.from_residual-in_err-shard.result c.from_residual-in_err-shard.ensures.1 in
    rw (p.1, p.2)
    (element_fails _ shard_fault shard_of c.in_ok-items.items.now (items (shards (view c.args.root.now))) c.loop-place.place c.loop-place.shards c.index-items-place.result given c.in_ok-items.ensures.0 c.in_ok-items.ensures.1.0
    c.loop-place.invariant c.loop-place-test.true c.index-items-place.is c.in_err-shard.ensures)

pub returns : goal.returns
returns c =
    let read = list_read _ shard_fault shard_of c.in_ok-items.items.now (items (shards (view c.args.root.now))) c.loop-place.place c.loop-place.shards c.in_ok-items.ensures.0 c.in_ok-items.ensures.1.0 c.loop-place.invariant
    (omega (arith, c.loop-place-test.false)) in
    (read.0, (read.1, read_few shard_of c.in_ok-items.items.now (items (shards (view c.args.root.now))) c.loop-place.shards 15 c.in_ok-items.ensures.1.0 read.1 c.in_ok-items.ensures.1.1))
