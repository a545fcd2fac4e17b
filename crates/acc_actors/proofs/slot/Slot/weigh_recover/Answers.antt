use Rattle.std.proofs.Common.{ap}
use Rattle.acc_message.specs.declared.entry.Event.TheVariants.{Recover as RecoverEvent}
use Rattle.acc_message.specs.NodeRules.{Recovers}
use Rattle.acc_schedule.specs.Content.{Content}
use Rattle.acc_actors.proofs.Calls.{may_recover, is_up}
use Rattle.acc_actors.proofs.Weighed.{node_weighs}
use Rattle.acc_actors.proofs.Excluded.{none_recovers}
use Rattle.acc_actors.proofs.slot.Slot.weigh_recover.Goals as goal

pub weigh_recover-requires-clause-up : goal.weigh_recover-requires-clause-up
weigh_recover-requires-clause-up g c =
    is_up g.D.Disk c.args.plan.now c.args.actor c.args.self.now c.in-Node.node c.in-Node.is c.plan.inside.topology (ap (λ (p : Content). p.topology) c.plan.view_is)
    (RecoverEvent c.args.txn) (Recovers c.args.id c.args.body.now) c.requires

pub weigh_recover-requires-clause-may : goal.weigh_recover-requires-clause-may
weigh_recover-requires-clause-may g c =
    may_recover g.D.Disk c.args.plan.now c.args.actor c.args.self.now c.in-Node.node c.in-Node.is c.plan.inside.topology (ap (λ (p : Content). p.topology) c.plan.view_is)
    c.args.txn c.args.id c.args.body.now c.requires

pub returns : goal.returns
returns g c =
    node_weighs g.D.Disk c.args.plan.now c.args.actor c.args.self.now c.plan.inside.topology (ap (λ (p : Content). p.topology) c.plan.view_is) c.in-Node.node c.in-Node.is
    (RecoverEvent c.args.txn) (Recovers c.args.id c.args.body.now) c.weigh_recover.result c.weigh_recover.ensures

pub unreachable-requires : goal.unreachable-requires
unreachable-requires g c = none_recovers g.D.Disk c.args.plan.now c.args.self.now c.in-Empty.is c.args.actor c.args.txn c.args.id c.args.body.now c.requires
