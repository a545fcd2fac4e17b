use Rattle.acc_record.specs.Learning.{share_at}
use Rattle.acc_execute.proofs.Showing.{shown_roomy}
use Rattle.acc_execute.proofs.Stepping.{left_at_once, left_roomy, learnt_roomy}
use Rattle.acc_execute.proofs.step.learn_with_room.Goals as goal

pub returns-in_err-make_room-clause-err : goal.returns-in_err-make_room-clause-err
returns-in_err-make_room-clause-err c =
    left_at_once c.args.shelf.now c.make_room.new.waits c.make_room.ensures.same c.from_residual.result

pub returns-clause-ok : goal.returns-clause-ok
returns-clause-ok c =
    learnt_roomy c.args.shelf.now c.make_room.new.waits c.make_room.ensures.same c.learn_body.new.self c.args.id c.args.plan.now c.args.news.now.body.now (share_at c.args.topology.now c.args.shelf.now c.args.id c.args.news.now.body.now) c.args.news.now.t c.args.news.now.top
    c.learn_body.result c.in_ok-make_room.ensures.room c.learn_body.ensures.ok

pub returns-clause-err : goal.returns-clause-err
returns-clause-err c = left_roomy c.args.shelf.now c.make_room.new.waits c.make_room.ensures.same c.learn_body.new.self c.learn_body.result c.learn_body.ensures.err

pub returns-then-noted-clause-ok : goal.returns-then-noted-clause-ok
returns-then-noted-clause-ok c =
    shown_roomy c.args.shelf.now c.make_room.new.waits c.make_room.ensures.same c.args.id c.args.plan.now c.args.news.now.body.now (share_at c.args.topology.now c.args.shelf.now c.args.id c.args.news.now.body.now)
    c.args.news.now.t c.args.news.now.top c.max-shelf.result c.max-shelf.ensures c.in_ok-make_room.ensures.room (c.requires c.if-noted.true)
