use Rattle.std.proofs.Common.{◌≡◌, true, sym, subst}
use Rattle.acc_record.specs.declared.record.Record.{Record}
use Rattle.acc_record.specs.Shelf.{record_at}
use Rattle.acc_execute.specs.Executed.{shows}
use Rattle.acc_execute.proofs.Stepping.{learnt_of, moved, moved_at_once, left_moved, own_known, executed_here}
use Rattle.acc_execute.proofs.step.execute.Goals as goal

pub returns-in_err-flush-clause-err : goal.returns-in_err-flush-clause-err
returns-in_err-flush-clause-err c = moved_at_once c.args.shelf.now c.flush.new.self c.flush.ensures.same c.from_residual.result

pub returns-in_err-learn_with_room-clause-err : goal.returns-in_err-learn_with_room-clause-err
returns-in_err-learn_with_room-clause-err c =
    left_moved c.args.shelf.now c.flush.new.self c.flush.ensures.same c.learn_with_room.new.shelf c.from_residual-in_err-learn_with_room.result c.in_err-learn_with_room.ensures.err

pub learn_with_room-requires : goal.learn_with_room-requires
learn_with_room-requires c =
    λ h. subst (λ (o : Record). shows (record_at c.args.shelf.now.records o.id) c.args.news.now.t ≡ true) (sym c.get.ensures) (c.requires h)

pub commit-requires-clause-known : goal.commit-requires-clause-known
commit-requires-clause-known c =
    own_known c.args.shelf.now c.flush.new.self c.flush.ensures.same c.learn_with_room.new.shelf c.args.step c.args.topology.now c.args.news.now.body.now c.args.news.now.t
    c.args.news.now.top
    (learnt_of c.args.topology.now (moved c.args.shelf.now c.flush.new.self c.flush.ensures.same) c.learn_with_room.new.shelf c.get.result.now c.args.step.own c.args.step.plan c.args.news.now.body.now c.args.news.now.t c.args.news.now.top
    c.get.ensures c.in_ok-learn_with_room.ensures.ok)

pub commit-requires-clause-room : goal.commit-requires-clause-room
commit-requires-clause-room c = c.in_ok-learn_with_room.ensures.ok.room

pub returns-clause-ok : goal.returns-clause-ok
returns-clause-ok c =
    executed_here c.args.shelf.now c.flush.new.self c.flush.ensures.same c.learn_with_room.new.shelf c.args.step c.args.topology.now c.args.news.now.body.now c.args.news.now.t
    c.args.news.now.top
    (learnt_of c.args.topology.now (moved c.args.shelf.now c.flush.new.self c.flush.ensures.same) c.learn_with_room.new.shelf c.get.result.now c.args.step.own c.args.step.plan c.args.news.now.body.now c.args.news.now.t c.args.news.now.top
    c.get.ensures c.in_ok-learn_with_room.ensures.ok)
    c.commit.new.shelf c.commit.ensures
