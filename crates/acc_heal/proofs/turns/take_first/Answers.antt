-- The recover is due, and then the drain.
use Rattle.acc_cluster.specs.Steps.{IfLimit}
use Rattle.acc_run.proofs.Taking.{handed_on}
use Rattle.acc_heal.specs.Places.{IsFirst, EndsWithin}
use Rattle.acc_heal.proofs.Rounds.{first_stands, first_ends, first_drain_stands, first_drain_ends, first_taken}
use Rattle.acc_heal.proofs.turns.take_first.Goals as goal

pub take-requires-clause-standing : goal.take-requires-clause-standing
take-requires-clause-standing g c =
    first_stands g.D.Disk c.args.plan.now c.args.number.now c.args.number.now c.args.id c.args.txn c.recover_of.result c.recover_of.ensures c.args.cluster.now c.args.cluster.now
    c.requires.standing

pub take-requires-2-clause-standing : goal.take-requires-2-clause-standing
take-requires-2-clause-standing g c =
    first_drain_stands g.D.Disk c.args.plan.now c.args.number.now c.take.new.number c.args.id c.args.txn c.recover_of.result c.recover_of.ensures c.args.cluster.now
    c.take.new.cluster c.in_ok-take.ensures.ok c.requires.standing

pub returns-clause-ok : goal.returns-clause-ok
returns-clause-ok g c =
    first_taken g.D.Disk c.args.plan.now c.args.number.now c.take.new.number c.args.id c.args.txn c.recover_of.result c.recover_of.ensures c.args.cluster.now
    c.take.new.cluster c.in_ok-take.ensures.ok c.take-2.new.cluster c.take-2.new.number c.newest_ballot-drawn.result c.items.result.now.items c.newest_ballot-drawn.ensures
    c.items.ensures c.in_ok-take-2.ensures.ok

pub returns-in_err-take-clause-limit : goal.returns-in_err-take-clause-limit
returns-in_err-take-clause-limit g c =
    handed_on (IfLimit (EndsWithin g.D.Disk c.args.plan.now c.args.cluster.now (IsFirst c.args.plan.now c.args.number.now c.args.id c.args.txn)))
    c.from_residual.result c.in_err-take.field-0.0 c.from_residual.ensures.1
    (first_ends g.D.Disk c.args.plan.now c.args.number.now c.args.number.now c.args.id c.args.txn c.recover_of.result c.recover_of.ensures c.args.cluster.now
    c.args.cluster.now c.in_err-take.field-0.0 c.in_err-take.ensures.limit)

pub returns-in_err-take-2-clause-limit : goal.returns-in_err-take-2-clause-limit
returns-in_err-take-2-clause-limit g c =
    handed_on (IfLimit (EndsWithin g.D.Disk c.args.plan.now c.args.cluster.now (IsFirst c.args.plan.now c.args.number.now c.args.id c.args.txn)))
    c.from_residual-in_err-take-2.result c.in_err-take-2.field-0.0 c.from_residual-in_err-take-2.ensures.1
    (first_drain_ends g.D.Disk c.args.plan.now c.args.number.now c.take.new.number c.args.id c.args.txn c.recover_of.result c.recover_of.ensures c.args.cluster.now
    c.take.new.cluster c.in_ok-take.ensures.ok c.in_err-take-2.field-0.0 c.in_err-take-2.ensures.limit)
