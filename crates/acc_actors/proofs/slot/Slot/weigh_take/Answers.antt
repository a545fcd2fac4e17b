use Rattle.std.proofs.Common.{ap, subst}
use Rattle.acc_message.specs.declared.entry.Event.TheVariants.{Message as MessageEvent}
use Rattle.acc_message.specs.NodeRules.{Takes}
use Rattle.acc_schedule.specs.Content.{Content}
use Rattle.acc_schedule.specs.Plan.{IsPlan}
use Rattle.acc_actors.proofs.Weighed.{node_may_weigh, node_weighs}
use Rattle.acc_actors.proofs.GroupCalls.{node_may_ask, node_weighs_behind, store_up, may_stage, may_weigh, store_weighs}
use Rattle.acc_actors.proofs.Excluded.{not_empty_behind}
use Rattle.acc_actors.proofs.slot.Slot.weigh_take.Goals as goal

pub weigh_take-requires-clause-may : goal.weigh_take-requires-clause-may
weigh_take-requires-clause-may g c =
    node_may_weigh g.D.Disk c.args.plan.now c.args.actor c.args.self.now c.plan.inside.topology (ap (λ (p : Content). p.topology) c.plan.view_is) c.in-Node.node c.in-Node.is
    c.args.number c.args.m.now (node_may_ask g.D.Disk c.args.plan.now c.args.actor c.args.self.now c.args.number c.args.m.now c.in-Node.node c.in-Node.is c.requires)

pub returns-in-Node : goal.returns-in-Node
returns-in-Node g c =
    node_weighs_behind g.D.Disk c.args.plan.now c.args.actor c.args.self.now c.args.number c.args.m.now c.in-Node.node c.in-Node.is c.weigh_take.result
    (node_weighs g.D.Disk c.args.plan.now c.args.actor c.args.self.now c.plan.inside.topology (ap (λ (p : Content). p.topology) c.plan.view_is) c.in-Node.node c.in-Node.is
    (MessageEvent c.args.number) (Takes c.args.m.now) c.weigh_take.result c.weigh_take.ensures)

pub prepare-requires-clause-up : goal.prepare-requires-clause-up
prepare-requires-clause-up g c =
    store_up g.D.Disk c.args.plan.now c.args.actor c.args.self.now c.args.number c.args.m.now c.plan.inside.topology (ap (λ (p : Content). p.topology) c.plan.view_is) c.in-Store.store c.in-Store.is c.requires

pub prepare-requires-clause-may : goal.prepare-requires-clause-may
prepare-requires-clause-may g c =
    may_stage g.D.Disk c.args.plan.now c.args.actor c.args.self.now c.args.number c.args.m.now c.plan.inside.topology (ap (λ (p : Content). p.topology) c.plan.view_is) c.in-Store.store c.in-Store.is
    c.messages_have_numbers_alone.ensures (subst IsPlan c.plan.view_is c.plan.invariant) c.requires

pub weigh-requires-clause-may : goal.weigh-requires-clause-may
weigh-requires-clause-may g c =
    may_weigh g.D.Disk c.args.plan.now c.args.actor c.args.self.now c.args.number c.args.m.now c.plan.inside.topology (ap (λ (p : Content). p.topology) c.plan.view_is) c.in-Store.store c.in-Store.is
    c.messages_have_numbers_alone.ensures (subst IsPlan c.plan.view_is c.plan.invariant) c.requires

pub returns-in_ok-prepared-in-Store : goal.returns-in_ok-prepared-in-Store
returns-in_ok-prepared-in-Store g c =
    store_weighs g.D.Disk c.args.plan.now c.args.actor c.args.self.now c.args.number c.args.m.now c.plan.inside.topology (ap (λ (p : Content). p.topology) c.plan.view_is) c.in-Store.store c.in-Store.is
    c.weigh.result c.weigh.ensures

pub unreachable-requires : goal.unreachable-requires
unreachable-requires g c = not_empty_behind g.D.Disk c.args.plan.now c.args.self.now c.in-Empty.is _ c.requires
