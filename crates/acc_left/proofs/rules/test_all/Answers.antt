use Rattle.std.proofs.Common.{◌≡◌, Err, arith, subst, sym}
use Rattle.std.proofs.lemmas.Result.{err_from_is_err_and}
use Rattle.acc_schedule.specs.declared.error.PlanError.{PlanError}
use Rattle.acc_left.specs.Told.{Draws, TellDraws}
use Rattle.acc_left.proofs.RuleFacts.{kind_node, kind_store, nodes_fail, store_fails, stores_all, stores_more, stores_none, stores_skip}
use Rattle.acc_left.proofs.rules.test_all.Goals as goal
use Rattle.acc_left.proofs.rules.test_all.Goals.{then-shard-ne0+in_ok-test_store, else-shard-ne0}

pub returns-in_err-drawn : goal.returns-in_err-drawn
returns-in_err-drawn c =
    let given : PlanError = c.in_err-drawn.field-0.0 in
    let p : (e : PlanError) × (c.from_residual.result ≡ Err e) × (e ≡ given) = err_from_is_err_and c.from_residual.result c.from_residual.ensures.1 in
    rw (p.1, p.2) (nodes_fail c.args.plan.now c.args.images.now given c.in_err-drawn.ensures)

pub loop-image-init : goal.loop-image-init
loop-image-init c = stores_none c.args.plan.now c.args.images.now

pub loop-image-preserved : goal.loop-image-preserved
loop-image-preserved c =
    elim c.if-shard-ne0.branch [
      | then-shard-ne0+in_ok-test_store w ↦
          stores_more c.args.plan.now c.args.images.now c.loop-image.image-index c.image-item.result c.loop-image-test.true c.image-item.is c.loop-image.invariant
          (λ store. w.in_ok-test_store.ensures c.args.images.now (subst (λ (d : Draws). TellDraws c.args.plan.now d c.args.images.now) (sym c.in_ok-numbers.ensures) c.in_ok-drawn.ensures.1))
      | else-shard-ne0 w ↦
          stores_skip c.args.plan.now c.args.images.now c.loop-image.image-index c.image-item.result c.loop-image-test.true c.image-item.is
          (kind_node c.image-item.result.actor c.shard.result c.shard.ensures w.if-shard-ne0.false) c.loop-image.invariant
    ]

pub returns-in_err-test_store : goal.returns-in_err-test_store
returns-in_err-test_store c =
    let given : PlanError = c.in_err-test_store.field-0.0 in
    let p : (e : PlanError) × (c.from_residual-in_err-test_store.result ≡ Err e) × (e ≡ given)
    = err_from_is_err_and c.from_residual-in_err-test_store.result c.from_residual-in_err-test_store.ensures.1 in
    rw (p.1, p.2)
    (store_fails c.args.plan.now c.args.images.now c.loop-image.image-index c.image-item.result c.loop-image-test.true c.image-item.is given
    (kind_store c.image-item.result.actor c.shard.result c.shard.ensures c.if-shard-ne0.true) c.in_ok-drawn.ensures.0 c.loop-image.invariant
    (c.in_err-test_store.ensures c.args.images.now (subst (λ (d : Draws). TellDraws c.args.plan.now d c.args.images.now) (sym c.in_ok-numbers.ensures) c.in_ok-drawn.ensures.1)))

pub returns : goal.returns
returns c = stores_all c.args.plan.now c.args.images.now c.loop-image.image-index (omega arith) c.in_ok-drawn.ensures.0 c.loop-image.invariant
