use Rattle.std.proofs.Common.{ap}
use Rattle.acc_message.specs.declared.entry.Event.TheVariants.{Begin as BeginEvent}
use Rattle.acc_message.specs.NodeRules.{Begins}
use Rattle.acc_schedule.specs.Content.{Content}
use Rattle.acc_actors.proofs.Calls.{may_begin, is_up}
use Rattle.acc_actors.proofs.Weighed.{node_weighs}
use Rattle.acc_actors.proofs.Excluded.{none_begins}
use Rattle.acc_actors.proofs.slot.Slot.weigh_begin.Goals as goal

pub weigh_begin-requires-clause-up : goal.weigh_begin-requires-clause-up
weigh_begin-requires-clause-up g c =
    is_up g.D.Disk c.args.plan.now c.args.actor c.args.self.now c.in-Node.node c.in-Node.is c.plan.inside.topology (ap (λ (p : Content). p.topology) c.plan.view_is)
    (BeginEvent c.args.txn) (Begins c.args.txn c.args.body.now) c.requires

pub weigh_begin-requires-clause-may : goal.weigh_begin-requires-clause-may
weigh_begin-requires-clause-may g c =
    may_begin g.D.Disk c.args.plan.now c.args.actor c.args.self.now c.in-Node.node c.in-Node.is c.plan.inside.topology (ap (λ (p : Content). p.topology) c.plan.view_is)
    c.args.txn c.args.body.now c.requires

pub returns : goal.returns
returns g c =
    node_weighs g.D.Disk c.args.plan.now c.args.actor c.args.self.now c.plan.inside.topology (ap (λ (p : Content). p.topology) c.plan.view_is) c.in-Node.node c.in-Node.is
    (BeginEvent c.args.txn) (Begins c.args.txn c.args.body.now) c.weigh_begin.result c.weigh_begin.ensures

pub unreachable-requires : goal.unreachable-requires
unreachable-requires g c = none_begins g.D.Disk c.args.plan.now c.args.self.now c.in-Empty.is c.args.actor c.args.txn c.args.body.now c.requires
