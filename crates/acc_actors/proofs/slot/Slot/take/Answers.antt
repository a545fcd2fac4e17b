use Rattle.std.proofs.Common.{ap, subst}
use Rattle.acc_schedule.specs.Content.{Content}
use Rattle.acc_schedule.specs.Plan.{IsPlan}
use Rattle.acc_actors.proofs.Takes.{top_low, node_answers, node_refuses, may_take, store_answers}
use Rattle.acc_actors.proofs.Excluded.{not_empty}
use Rattle.acc_actors.proofs.slot.Slot.take.Goals as goal

pub take-requires-clause-top_in_range : goal.take-requires-clause-top_in_range
take-requires-clause-top_in_range g c = top_low g.D.Disk c.args.plan.now c.args.actor c.args.number c.args.m.now c.args.self.now c.requires

pub take-requires-in-Store-clause-may : goal.take-requires-in-Store-clause-may
take-requires-in-Store-clause-may g c =
    may_take g.D.Disk c.args.plan.now c.args.actor c.args.number c.args.m.now c.args.self.now c.plan.inside.topology (ap (λ (p : Content). p.topology) c.plan.view_is)
    c.in-Store.store c.in-Store.is c.messages_have_numbers_alone.ensures (subst IsPlan c.plan.view_is c.plan.invariant) c.requires

pub returns-in_ok-take-in-Node : goal.returns-in_ok-take-in-Node
returns-in_ok-take-in-Node g c =
    node_answers g.D.Disk c.args.plan.now c.args.actor c.args.number c.args.m.now c.args.self.now c.plan.inside.topology (ap (λ (p : Content). p.topology) c.plan.view_is)
    c.in-Node.node c.take.new.self c.in-Node.is c.take.ensures.disk c.in_ok-take-in-Node.field-0 c.in_ok-take-in-Node.ensures.ok c.take.ensures.up c.take.ensures.strict

pub returns-in-Store : goal.returns-in-Store
returns-in-Store g c =
    store_answers g.D.Disk c.args.plan.now c.args.actor c.args.number c.args.m.now c.args.self.now c.plan.inside.topology (ap (λ (p : Content). p.topology) c.plan.view_is)
    c.in-Store.store c.in-Store.is c.take-in-Store.new.self c.take-in-Store.result c.take-in-Store.ensures.ok c.take-in-Store.ensures.down c.take-in-Store.ensures.faults c.take-in-Store.ensures.strict c.requires c.take-in-Store.ensures.err

pub returns-in_err-take-in-Node : goal.returns-in_err-take-in-Node
returns-in_err-take-in-Node g c =
    node_refuses g.D.Disk c.args.plan.now c.args.actor c.args.number c.args.m.now c.args.self.now c.plan.inside.topology (ap (λ (p : Content). p.topology) c.plan.view_is)
    c.in-Node.node c.take.new.self c.in-Node.is c.take.ensures.disk c.from_residual.result c.from_residual.ensures.0 c.requires c.in_err-take-in-Node.ensures.err

pub unreachable-requires : goal.unreachable-requires
unreachable-requires g c = not_empty g.D.Disk c.args.plan.now c.args.self.now c.in-Empty.is _ c.requires
