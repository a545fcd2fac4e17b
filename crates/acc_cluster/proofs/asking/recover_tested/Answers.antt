use Rattle.std.proofs.Common.{ap, refl}
use Rattle.acc_message.specs.declared.entry.Event.TheVariants.{Recover as RecoverEvent}
use Rattle.acc_message.specs.NodeRules.{Recovers}
use Rattle.acc_durable_node.specs.Actor as node
use Rattle.acc_schedule.specs.Content.{Content}
use Rattle.acc_actors.proofs.Calls.{called, called_strictly, recover_is}
use Rattle.acc_actors.proofs.Few.{steps_up}
use Rattle.acc_cluster.proofs.Safe.{may_recover, steps_on}
use Rattle.acc_cluster.proofs.asking.recover_tested.Goals as goal

pub recover-requires-clause-may : goal.recover-requires-clause-may
recover-requires-clause-may g c = may_recover g.D.Disk c.args.plan.now c.plan.inside.topology (ap (λ (p : Content). p.topology) c.plan.view_is) c.args.actor c.args.slot.now c.in-Node.node c.in-Node.is c.in-Node.node c.requires.safe

pub returns-clause-ok : goal.returns-clause-ok
returns-clause-ok g c =
    called g.D.Disk c.args.plan.now c.args.actor c.args.slot.now c.in-Node.node c.in-Node.is c.plan.inside.topology (ap (λ (p : Content). p.topology) c.plan.view_is)
    (RecoverEvent c.args.txn) (Recovers c.args.id c.args.body.now) (λ layout. node.recover_stop layout c.args.txn c.args.id c.args.body.now) refl
    (recover_is g.D.Disk c.args.plan.now c.args.actor c.args.slot.now c.in-Node.node c.in-Node.is c.plan.inside.topology (ap (λ (p : Content). p.topology) c.plan.view_is) c.args.txn c.args.id c.args.body.now)
    c.recover.new.self c.recover.result c.recover.ensures.ok c.recover.ensures.down (steps_up c.recover.result _ _ c.recover.ensures.faults) c.recover.ensures.faults.cause

pub returns-clause-strict : goal.returns-clause-strict
returns-clause-strict g c =
    called_strictly g.D.Disk c.args.plan.now c.args.actor c.args.slot.now c.in-Node.node c.in-Node.is c.plan.inside.topology (ap (λ (p : Content). p.topology) c.plan.view_is)
    (RecoverEvent c.args.txn) (Recovers c.args.id c.args.body.now) (λ layout. node.recover_stop layout c.args.txn c.args.id c.args.body.now) refl
    (recover_is g.D.Disk c.args.plan.now c.args.actor c.args.slot.now c.in-Node.node c.in-Node.is c.plan.inside.topology (ap (λ (p : Content). p.topology) c.plan.view_is) c.args.txn c.args.id c.args.body.now)
    c.recover.new.self c.recover.result c.recover.ensures.strict

pub returns-clause-safe : goal.returns-clause-safe
returns-clause-safe g c =
    steps_on g.D.Disk c.args.plan.now c.plan.inside.topology (ap (λ (p : Content). p.topology) c.plan.view_is) c.args.actor c.args.slot.now c.in-Node.node c.in-Node.is c.recover.new.self (λ layout. node.recover_stop layout c.args.txn c.args.id c.args.body.now) (λ most name past. tt) c.recover.result c.recover.ensures.ok
