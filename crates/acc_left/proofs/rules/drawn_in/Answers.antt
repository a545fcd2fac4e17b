use Rattle.std.proofs.Common.{◌≡◌, ◌+◌, Err, sym, subst, arith}
use Rattle.std.proofs.lemmas.Result.{err_from_is_err_and}
use Rattle.acc_schedule.specs.declared.error.PlanError.{PlanError}
use Rattle.acc_left.specs.declared.drawn.Drawn.{Drawn}
use Rattle.acc_left.proofs.TableFacts.{tell_none}
use Rattle.acc_left.proofs.RuleFacts.{AreDrawn, drawn_all, drawn_node, drawn_none, drawn_store, kind_node, kind_store, node_fails}
use Rattle.acc_left.proofs.rules.drawn_in.Goals as goal
use Rattle.acc_left.proofs.rules.drawn_in.Goals.{then-shard-eq0+in_ok-test_node, else-shard-eq0}

pub loop-image-init : goal.loop-image-init
loop-image-init c = drawn_none c.args.plan.now c.args.images.now c.new-drawn.result.draws (tell_none c.args.plan.now c.new-drawn.result.draws c.new-drawn.ensures)

pub loop-image-preserved : goal.loop-image-preserved
loop-image-preserved c =
    elim c.if-shard-eq0.branch [
      | then-shard-eq0+in_ok-test_node w ↦
          subst (λ (d : Drawn). AreDrawn c.args.plan.now c.args.images.now (c.loop-image.image-index + 1) d.draws) (sym w.drawn-is)
          (drawn_node c.args.plan.now c.args.images.now c.loop-image.image-index c.image-item.result c.loop-image-test.true c.image-item.is c.loop-image.drawn.draws
          w.test_node.new.drawn.draws c.requires (kind_node c.image-item.result.actor c.shard.result c.shard.ensures w.if-shard-eq0.true) c.loop-image.invariant
          w.in_ok-test_node.ensures)
      | else-shard-eq0 w ↦
          subst (λ (d : Drawn). AreDrawn c.args.plan.now c.args.images.now (c.loop-image.image-index + 1) d.draws) (sym w.drawn-is)
          (drawn_store c.args.plan.now c.args.images.now c.loop-image.image-index c.image-item.result c.loop-image-test.true c.image-item.is c.loop-image.drawn.draws
          (kind_store c.image-item.result.actor c.shard.result c.shard.ensures w.if-shard-eq0.false) c.loop-image.invariant)
    ]

pub returns-in_err-test_node : goal.returns-in_err-test_node
returns-in_err-test_node c =
    let given : PlanError = c.in_err-test_node.field-0.0 in
    let p : (e : PlanError) × (c.from_residual.result ≡ Err e) × (e ≡ given) = err_from_is_err_and c.from_residual.result c.from_residual.ensures.1 in
    rw (p.1, p.2)
    (node_fails c.args.plan.now c.args.images.now c.loop-image.image-index c.image-item.result c.loop-image-test.true c.image-item.is c.loop-image.drawn.draws given
    (kind_node c.image-item.result.actor c.shard.result c.shard.ensures c.if-shard-eq0.true) c.loop-image.invariant c.in_err-test_node.ensures)

pub returns : goal.returns
returns c = drawn_all c.args.plan.now c.args.images.now c.loop-image.image-index c.loop-image.drawn.draws (omega arith) c.loop-image.invariant
