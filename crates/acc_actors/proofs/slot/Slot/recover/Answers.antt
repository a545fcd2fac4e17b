use Rattle.std.proofs.Common.{ap, refl}
use Rattle.acc_message.specs.declared.entry.Event.TheVariants.{Recover as RecoverEvent}
use Rattle.acc_message.specs.NodeRules.{Recovers}
use Rattle.acc_durable_node.specs.Actor as node
use Rattle.acc_schedule.specs.Content.{Content}
use Rattle.acc_actors.proofs.Calls.{may_recover, answers, recover_is}
use Rattle.acc_actors.proofs.Excluded.{none_recovers}
use Rattle.acc_actors.proofs.slot.Slot.recover.Goals as goal

pub recover-requires-clause-may : goal.recover-requires-clause-may
recover-requires-clause-may g c =
    may_recover g.D.Disk c.args.plan.now c.args.actor c.args.self.now c.in-Node.node c.in-Node.is c.plan.inside.topology (ap (λ (p : Content). p.topology) c.plan.view_is) c.args.txn c.args.id c.args.body.now c.requires

pub returns : goal.returns
returns g c =
    answers g.D.Disk c.args.plan.now c.args.actor c.args.self.now c.in-Node.node c.in-Node.is c.plan.inside.topology (ap (λ (p : Content). p.topology) c.plan.view_is)
    (RecoverEvent c.args.txn) (Recovers c.args.id c.args.body.now) (λ layout. node.recover_stop layout c.args.txn c.args.id c.args.body.now) refl
    (recover_is g.D.Disk c.args.plan.now c.args.actor c.args.self.now c.in-Node.node c.in-Node.is c.plan.inside.topology (ap (λ (p : Content). p.topology) c.plan.view_is) c.args.txn c.args.id c.args.body.now)
    c.recover.new.self c.recover.result c.requires c.recover.ensures

pub unreachable-requires : goal.unreachable-requires
unreachable-requires g c = none_recovers g.D.Disk c.args.plan.now c.args.self.now c.in-Empty.is c.args.actor c.args.txn c.args.id c.args.body.now c.requires
