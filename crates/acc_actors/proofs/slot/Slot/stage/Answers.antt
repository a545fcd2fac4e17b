use Rattle.std.proofs.Common.{sym, ap, subst}
use Rattle.acc_topology.specs.Layout.{Layout}
use Rattle.acc_schedule.specs.Content.{Content}
use Rattle.acc_schedule.specs.Plan.{IsPlan}
use Rattle.acc_durable_store.specs.Weighing.{IsPreparedBy}
use Rattle.acc_actors.specs.Slots.{IsPreparedIn}
use Rattle.acc_actors.proofs.GroupCalls.{store_up, may_stage, stage_called, stage_refused, stage_strictly, stage_faults}
use Rattle.acc_actors.proofs.Excluded.{not_empty_behind}
use Rattle.acc_actors.proofs.slot.Slot.stage.Goals as goal

pub stage-requires-clause-up : goal.stage-requires-clause-up
stage-requires-clause-up g c =
    store_up g.D.Disk c.args.plan.now c.args.actor c.args.self.now c.args.number c.args.m.now c.plan.inside.topology (ap (λ (p : Content). p.topology) c.plan.view_is) c.in-Store.store c.in-Store.is c.requires.may

pub stage-requires-clause-may : goal.stage-requires-clause-may
stage-requires-clause-may g c =
    may_stage g.D.Disk c.args.plan.now c.args.actor c.args.self.now c.args.number c.args.m.now c.plan.inside.topology (ap (λ (p : Content). p.topology) c.plan.view_is) c.in-Store.store c.in-Store.is
    c.messages_have_numbers_alone.ensures (subst IsPlan c.plan.view_is c.plan.invariant) c.requires.may

pub stage-requires-clause-prepared : goal.stage-requires-clause-prepared
stage-requires-clause-prepared g c =
    subst (λ (layout : Layout). IsPreparedBy layout c.in-Store.store c.args.m.now c.args.prepared) (sym (ap (λ (p : Content). p.topology) c.plan.view_is))
    (subst (λ slot. IsPreparedIn c.args.plan.now slot c.args.m.now c.args.prepared) c.in-Store.is c.requires.prepared)

pub returns-in-Store-clause-ok : goal.returns-in-Store-clause-ok
returns-in-Store-clause-ok g c =
    stage_called g.D.Disk c.args.plan.now c.args.actor c.args.self.now c.args.number c.args.m.now c.plan.inside.topology (ap (λ (p : Content). p.topology) c.plan.view_is) c.in-Store.store c.in-Store.is
    c.stage.result c.stage.new.self c.stage.ensures.ok c.stage.ensures.up c.stage.ensures.disk

pub returns-in-Store-clause-err : goal.returns-in-Store-clause-err
returns-in-Store-clause-err g c =
    stage_refused g.D.Disk c.args.plan.now c.args.actor c.args.self.now c.args.number c.args.m.now c.plan.inside.topology (ap (λ (p : Content). p.topology) c.plan.view_is) c.in-Store.store c.in-Store.is
    c.stage.result c.stage.new.self c.requires.may c.stage.ensures.err c.stage.ensures.up c.stage.ensures.disk

pub returns-in-Store-clause-strict : goal.returns-in-Store-clause-strict
returns-in-Store-clause-strict g c =
    stage_strictly g.D.Disk c.args.plan.now c.args.actor c.args.self.now c.args.number c.args.m.now c.plan.inside.topology (ap (λ (p : Content). p.topology) c.plan.view_is) c.in-Store.store c.in-Store.is
    c.stage.new.self c.stage.ensures.strict

pub returns-in-Store-clause-faults : goal.returns-in-Store-clause-faults
returns-in-Store-clause-faults g c =
    stage_faults g.D.Disk c.args.plan.now c.args.actor c.args.self.now c.args.number c.args.m.now c.plan.inside.topology (ap (λ (p : Content). p.topology) c.plan.view_is) c.in-Store.store c.in-Store.is
    c.stage.new.self c.stage.ensures.disk

pub unreachable-requires : goal.unreachable-requires
unreachable-requires g c = not_empty_behind g.D.Disk c.args.plan.now c.args.self.now c.in-Empty.is _ c.requires.may
