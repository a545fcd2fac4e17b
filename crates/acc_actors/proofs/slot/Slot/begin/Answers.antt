use Rattle.std.proofs.Common.{ap, refl}
use Rattle.acc_message.specs.declared.entry.Event.TheVariants.{Begin as BeginEvent}
use Rattle.acc_message.specs.NodeRules.{Begins}
use Rattle.acc_durable_node.specs.Actor as node
use Rattle.acc_schedule.specs.Content.{Content}
use Rattle.acc_actors.proofs.Calls.{may_begin, answers, begin_is}
use Rattle.acc_actors.proofs.Excluded.{none_begins}
use Rattle.acc_actors.proofs.slot.Slot.begin.Goals as goal

pub begin-requires-clause-may : goal.begin-requires-clause-may
begin-requires-clause-may g c =
    may_begin g.D.Disk c.args.plan.now c.args.actor c.args.self.now c.in-Node.node c.in-Node.is c.plan.inside.topology (ap (λ (p : Content). p.topology) c.plan.view_is) c.args.txn c.args.body.now c.requires

pub returns : goal.returns
returns g c =
    answers g.D.Disk c.args.plan.now c.args.actor c.args.self.now c.in-Node.node c.in-Node.is c.plan.inside.topology (ap (λ (p : Content). p.topology) c.plan.view_is)
    (BeginEvent c.args.txn) (Begins c.args.txn c.args.body.now) (λ layout. node.begin_stop layout c.args.txn c.args.body.now) refl
    (begin_is g.D.Disk c.args.plan.now c.args.actor c.args.self.now c.in-Node.node c.in-Node.is c.plan.inside.topology (ap (λ (p : Content). p.topology) c.plan.view_is) c.args.txn c.args.body.now)
    c.begin.new.self c.begin.result c.requires c.begin.ensures

pub unreachable-requires : goal.unreachable-requires
unreachable-requires g c = none_begins g.D.Disk c.args.plan.now c.args.self.now c.in-Empty.is c.args.actor c.args.txn c.args.body.now c.requires
