use Rattle.std.proofs.Common.{ℕ, Ok, sym, ap, subst}
use Rattle.acc_topology.specs.Layout.{Layout}
use Rattle.acc_schedule.specs.Content.{Content}
use Rattle.acc_schedule.specs.Plan.{IsPlan}
use Rattle.acc_durable_store.specs.Weighing.{IsPreparedBy}
use Rattle.acc_actors.specs.Slots.{IsPreparedIn}
use Rattle.acc_actors.proofs.GroupCalls.{store_up, may_stage, may_weigh, store_weighs}
use Rattle.acc_actors.proofs.Excluded.{not_empty_behind}
use Rattle.acc_actors.proofs.slot.Slot.prepare.Goals as goal

pub prepare-requires-clause-up : goal.prepare-requires-clause-up
prepare-requires-clause-up g c =
    store_up g.D.Disk c.args.plan.now c.args.actor c.args.self.now c.args.number c.args.m.now c.plan.inside.topology (ap (λ (p : Content). p.topology) c.plan.view_is) c.in-Store.store c.in-Store.is c.requires

pub prepare-requires-clause-may : goal.prepare-requires-clause-may
prepare-requires-clause-may g c =
    may_stage g.D.Disk c.args.plan.now c.args.actor c.args.self.now c.args.number c.args.m.now c.plan.inside.topology (ap (λ (p : Content). p.topology) c.plan.view_is) c.in-Store.store c.in-Store.is
    c.messages_have_numbers_alone.ensures (subst IsPlan c.plan.view_is c.plan.invariant) c.requires

pub weigh-requires-clause-may : goal.weigh-requires-clause-may
weigh-requires-clause-may g c =
    may_weigh g.D.Disk c.args.plan.now c.args.actor c.args.self.now c.args.number c.args.m.now c.plan.inside.topology (ap (λ (p : Content). p.topology) c.plan.view_is) c.in-Store.store c.in-Store.is
    c.messages_have_numbers_alone.ensures (subst IsPlan c.plan.view_is c.plan.invariant) c.requires

pub returns-in_ok-weight-in-Store-clause-weight : goal.returns-in_ok-weight-in-Store-clause-weight
returns-in_ok-weight-in-Store-clause-weight g c =
    store_weighs g.D.Disk c.args.plan.now c.args.actor c.args.self.now c.args.number c.args.m.now c.plan.inside.topology (ap (λ (p : Content). p.topology) c.plan.view_is) c.in-Store.store c.in-Store.is
    {E = ℕ} (Ok c.in_ok-weight-in-Store.weight) c.in_ok-weight-in-Store.ensures

pub returns-in_ok-weight-in-Store-clause-prepared : goal.returns-in_ok-weight-in-Store-clause-prepared
returns-in_ok-weight-in-Store-clause-prepared g c =
    subst (λ slot. IsPreparedIn c.args.plan.now slot c.args.m.now c.in_ok-prepared-in-Store.prepared) (sym c.in-Store.is)
    (subst (λ (layout : Layout). IsPreparedBy layout c.in-Store.store c.args.m.now c.in_ok-prepared-in-Store.prepared) (ap (λ (p : Content). p.topology) c.plan.view_is)
    c.in_ok-prepared-in-Store.ensures)

pub unreachable-requires : goal.unreachable-requires
unreachable-requires g c = not_empty_behind g.D.Disk c.args.plan.now c.args.self.now c.in-Empty.is _ c.requires
