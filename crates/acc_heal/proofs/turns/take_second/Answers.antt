-- The recover is due, and then the drain.
use Rattle.acc_cluster.specs.Steps.{IfLimit}
use Rattle.acc_run.proofs.Taking.{handed_on}
use Rattle.acc_heal.specs.Places.{IsSecond, EndsWithin}
use Rattle.acc_heal.proofs.Passing.{taken_through, ended_through}
use Rattle.acc_heal.proofs.Rounds.{second_stands, second_ends, second_drain_stands, second_drain_ends, second_taken}
use Rattle.acc_heal.proofs.turns.take_second.Goals as goal

pub take-requires-clause-standing : goal.take-requires-clause-standing
take-requires-clause-standing g c =
    second_stands g.D.Disk c.args.plan.now c.args.number.now c.args.number.now c.args.id c.args.txn c.recover_of.result c.recover_of.ensures c.args.cluster.now c.args.cluster.now
    c.requires.standing

pub take-requires-2-clause-standing : goal.take-requires-2-clause-standing
take-requires-2-clause-standing g c =
    second_drain_stands g.D.Disk c.args.plan.now c.args.number.now c.take.new.number c.args.id c.args.txn c.recover_of.result c.recover_of.ensures c.args.cluster.now
    c.take.new.cluster c.in_ok-take.ensures.ok c.requires.standing

pub returns-in_err-take-clause-limit : goal.returns-in_err-take-clause-limit
returns-in_err-take-clause-limit g c =
    handed_on (IfLimit (EndsWithin g.D.Disk c.args.plan.now c.args.cluster.now (IsSecond c.args.number.now c.args.id c.args.txn)))
    c.from_residual.result c.in_err-take.field-0.0 c.from_residual.ensures.1
    (second_ends g.D.Disk c.args.plan.now c.args.number.now c.args.number.now c.args.id c.args.txn c.recover_of.result c.recover_of.ensures c.args.cluster.now
    c.args.cluster.now c.in_err-take.field-0.0 c.in_err-take.ensures.limit)

pub returns-clause-ok : goal.returns-clause-ok
returns-clause-ok g c =
    taken_through c.take-2.result c.take-2.ensures.ok
    (second_taken g.D.Disk c.args.plan.now c.args.number.now c.take.new.number c.args.id c.args.txn c.recover_of.result c.recover_of.ensures c.args.cluster.now
    c.take.new.cluster c.in_ok-take.ensures.ok c.take-2.new.cluster c.take-2.new.number)

pub returns-clause-limit : goal.returns-clause-limit
returns-clause-limit g c =
    ended_through c.take-2.result _ _ c.take-2.ensures.limit
    (second_drain_ends g.D.Disk c.args.plan.now c.args.number.now c.take.new.number c.args.id c.args.txn c.recover_of.result c.recover_of.ensures c.args.cluster.now
    c.take.new.cluster c.in_ok-take.ensures.ok)
