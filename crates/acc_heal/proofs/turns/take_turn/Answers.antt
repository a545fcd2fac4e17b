-- The first recover, and the second one where it was ended.
use Rattle.std.proofs.Common.{subst}
use Rattle.acc_cluster.specs.Steps.{IfLimit}
use Rattle.acc_run.proofs.Taking.{handed_on}
use Rattle.acc_heal.specs.Places.{IsFirst, TookFirst, IsTurnOf, Leads, EndsWithin}
use Rattle.acc_heal.proofs.Rounds.{turn_stands, turn_ends, turn_led_without, turn_led_once, turn_second_stands, turn_second_ends, turn_led_twice}
use Rattle.acc_heal.proofs.turns.take_turn.Goals as goal

pub take_first-requires-clause-standing : goal.take_first-requires-clause-standing
take_first-requires-clause-standing g c =
    turn_stands g.D.Disk c.args.plan.now c.args.number.now c.args.number.now c.args.id c.args.txn c.args.seen.now c.args.cluster.now c.args.cluster.now c.requires.standing

pub returns-in_err-ballot-clause-limit : goal.returns-in_err-ballot-clause-limit
returns-in_err-ballot-clause-limit g c =
    handed_on (IfLimit (EndsWithin g.D.Disk c.args.plan.now c.args.cluster.now (IsTurnOf c.args.plan.now c.args.number.now c.args.id c.args.txn c.args.seen.now)))
    c.from_residual.result c.in_err-ballot.field-0.0 c.from_residual.ensures.1
    (turn_ends g.D.Disk c.args.plan.now c.args.number.now c.args.number.now c.args.id c.args.txn c.args.seen.now c.args.cluster.now c.args.cluster.now
    c.in_err-ballot.field-0.0 c.in_err-ballot.ensures.limit)

pub returns-in_default-clause-ok : goal.returns-in_default-clause-ok
returns-in_default-clause-ok g c =
    turn_led_without g.D.Disk c.args.plan.now c.args.number.now c.take_first.new.number c.args.id c.args.txn c.args.seen.now c.args.cluster.now c.take_first.new.cluster
    (subst
    (λ drawn.
    Leads g.D.Disk c.args.plan.now c.args.cluster.now c.take_first.new.cluster (IsFirst c.args.plan.now c.args.number.now c.args.id c.args.txn)
    (TookFirst c.args.plan.now c.take_first.new.number drawn)) c.in_default.is c.in_ok-ballot.ensures.ok)

pub take_second-requires-clause-standing : goal.take_second-requires-clause-standing
take_second-requires-clause-standing g c =
    turn_second_stands g.D.Disk c.args.plan.now c.args.number.now c.take_first.new.number c.args.id c.args.txn c.args.seen.now c.args.cluster.now c.take_first.new.cluster
    c.in-Some.ballot c.look.new.self c.items.result.now.items c.items.ensures c.in_ok-look.ensures
    (subst
    (λ drawn.
    Leads g.D.Disk c.args.plan.now c.args.cluster.now c.take_first.new.cluster (IsFirst c.args.plan.now c.args.number.now c.args.id c.args.txn)
    (TookFirst c.args.plan.now c.take_first.new.number drawn)) c.in-Some.is c.in_ok-ballot.ensures.ok) c.is_ended.result c.is_ended.ensures c.if-is_ended.true
    c.requires.standing

pub returns-in_err-take_second-clause-limit : goal.returns-in_err-take_second-clause-limit
returns-in_err-take_second-clause-limit g c =
    handed_on (IfLimit (EndsWithin g.D.Disk c.args.plan.now c.args.cluster.now (IsTurnOf c.args.plan.now c.args.number.now c.args.id c.args.txn c.args.seen.now)))
    c.from_residual-in_err-take_second.result c.in_err-take_second.field-0.0 c.from_residual-in_err-take_second.ensures.1
    (turn_second_ends g.D.Disk c.args.plan.now c.args.number.now c.take_first.new.number c.args.id c.args.txn c.args.seen.now c.args.cluster.now
    c.take_first.new.cluster c.in-Some.ballot c.look.new.self c.items.result.now.items c.items.ensures c.in_ok-look.ensures
    (subst
    (λ drawn.
    Leads g.D.Disk c.args.plan.now c.args.cluster.now c.take_first.new.cluster (IsFirst c.args.plan.now c.args.number.now c.args.id c.args.txn)
    (TookFirst c.args.plan.now c.take_first.new.number drawn)) c.in-Some.is c.in_ok-ballot.ensures.ok) c.is_ended.result c.is_ended.ensures c.if-is_ended.true
    c.in_err-take_second.field-0.0 c.in_err-take_second.ensures.limit)

pub returns-in_ok-take_second-clause-ok : goal.returns-in_ok-take_second-clause-ok
returns-in_ok-take_second-clause-ok g c =
    turn_led_twice g.D.Disk c.args.plan.now c.args.number.now c.take_first.new.number c.args.id c.args.txn c.args.seen.now c.args.cluster.now c.take_first.new.cluster
    c.in-Some.ballot c.look.new.self c.items.result.now.items c.items.ensures c.in_ok-look.ensures
    (subst
    (λ drawn.
    Leads g.D.Disk c.args.plan.now c.args.cluster.now c.take_first.new.cluster (IsFirst c.args.plan.now c.args.number.now c.args.id c.args.txn)
    (TookFirst c.args.plan.now c.take_first.new.number drawn)) c.in-Some.is c.in_ok-ballot.ensures.ok) c.is_ended.result c.is_ended.ensures c.if-is_ended.true
    c.take_second.new.cluster c.take_second.new.number c.in_ok-take_second.ensures.ok

pub returns-else-is_ended-clause-ok : goal.returns-else-is_ended-clause-ok
returns-else-is_ended-clause-ok g c =
    turn_led_once g.D.Disk c.args.plan.now c.args.number.now c.take_first.new.number c.args.id c.args.txn c.args.seen.now c.args.cluster.now c.take_first.new.cluster
    c.in-Some.ballot c.look.new.self c.items.result.now.items c.items.ensures c.in_ok-look.ensures
    (subst
    (λ drawn.
    Leads g.D.Disk c.args.plan.now c.args.cluster.now c.take_first.new.cluster (IsFirst c.args.plan.now c.args.number.now c.args.id c.args.txn)
    (TookFirst c.args.plan.now c.take_first.new.number drawn)) c.in-Some.is c.in_ok-ballot.ensures.ok) c.is_ended.result c.is_ended.ensures c.if-is_ended.false
