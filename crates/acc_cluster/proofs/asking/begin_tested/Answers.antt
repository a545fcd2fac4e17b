use Rattle.std.proofs.Common.{ap, refl}
use Rattle.acc_message.specs.declared.entry.Event.TheVariants.{Begin as BeginEvent}
use Rattle.acc_message.specs.NodeRules.{Begins}
use Rattle.acc_durable_node.proofs.Standing.{not_begun}
use Rattle.acc_durable_node.specs.Actor as node
use Rattle.acc_schedule.specs.Content.{Content}
use Rattle.acc_actors.proofs.Calls.{called, called_strictly, begin_is}
use Rattle.acc_actors.proofs.Few.{steps_up}
use Rattle.acc_cluster.proofs.Safe.{may_begin, steps_on}
use Rattle.acc_cluster.proofs.asking.begin_tested.Goals as goal

pub begin-requires-clause-may : goal.begin-requires-clause-may
begin-requires-clause-may g c =
    may_begin g.D.Disk c.args.plan.now c.plan.inside.topology (ap (λ (p : Content). p.topology) c.plan.view_is) c.args.actor c.args.slot.now c.in-Node.node c.in-Node.is c.in-Node.node c.args.txn (λ layout name past stands. not_begun c.id_of.result _ c.is_some.result (c.id_of.ensures layout name past stands) c.is_some.ensures c.if-is_some.false) c.requires.safe

pub returns-clause-ok : goal.returns-clause-ok
returns-clause-ok g c =
    called g.D.Disk c.args.plan.now c.args.actor c.args.slot.now c.in-Node.node c.in-Node.is c.plan.inside.topology (ap (λ (p : Content). p.topology) c.plan.view_is)
    (BeginEvent c.args.txn) (Begins c.args.txn c.args.body.now) (λ layout. node.begin_stop layout c.args.txn c.args.body.now) refl
    (begin_is g.D.Disk c.args.plan.now c.args.actor c.args.slot.now c.in-Node.node c.in-Node.is c.plan.inside.topology (ap (λ (p : Content). p.topology) c.plan.view_is) c.args.txn c.args.body.now)
    c.begin.new.self c.begin.result c.begin.ensures.ok c.begin.ensures.down (steps_up c.begin.result _ _ c.begin.ensures.faults) c.begin.ensures.faults.cause

pub returns-clause-strict : goal.returns-clause-strict
returns-clause-strict g c =
    called_strictly g.D.Disk c.args.plan.now c.args.actor c.args.slot.now c.in-Node.node c.in-Node.is c.plan.inside.topology (ap (λ (p : Content). p.topology) c.plan.view_is)
    (BeginEvent c.args.txn) (Begins c.args.txn c.args.body.now) (λ layout. node.begin_stop layout c.args.txn c.args.body.now) refl
    (begin_is g.D.Disk c.args.plan.now c.args.actor c.args.slot.now c.in-Node.node c.in-Node.is c.plan.inside.topology (ap (λ (p : Content). p.topology) c.plan.view_is) c.args.txn c.args.body.now)
    c.begin.new.self c.begin.result c.begin.ensures.strict

pub returns-clause-safe : goal.returns-clause-safe
returns-clause-safe g c =
    steps_on g.D.Disk c.args.plan.now c.plan.inside.topology (ap (λ (p : Content). p.topology) c.plan.view_is) c.args.actor c.args.slot.now c.in-Node.node c.in-Node.is c.begin.new.self (λ layout. node.begin_stop layout c.args.txn c.args.body.now) (λ most name past. tt) c.begin.result c.begin.ensures.ok
