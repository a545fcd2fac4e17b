use Rattle.std.proofs.Common.{ap, sym, ◌∙◌, arith}
use Rattle.acc_schedule.specs.Content.{Content}
use Rattle.acc_actors.proofs.Takes.{node_took, node_took_strictly, store_called, store_called_strictly}
use Rattle.acc_actors.proofs.Few.{steps_up}
use Rattle.acc_cluster.proofs.Safe.{takes_on}
use Rattle.acc_cluster.proofs.SafeStores.{may_take}
use Rattle.acc_cluster.proofs.SafeStores.{takes_on as store_takes_on}
use Rattle.acc_cluster.proofs.asking.take_tested.Goals as goal

pub take-requires-in-Store-clause-may : goal.take-requires-in-Store-clause-may
take-requires-in-Store-clause-may g c =
    may_take g.D.Disk c.args.plan.now c.plan.inside.topology (ap (λ (p : Content). p.topology) c.plan.view_is) c.args.actor c.args.slot.now c.in-Store.store c.in-Store.is c.in-Store.store c.args.m.now (omega (arith, c.top.ensures, c.if-top-gt-MOST_TESTED.false)) c.requires.goes (c.can_be_taken.ensures.short c.if-not-can_be_taken.false) (c.can_be_taken.ensures.brings c.if-not-can_be_taken.false) (c.can_be_taken.ensures.texts c.if-not-can_be_taken.false) c.requires.safe

pub returns-in_ok-take-in-Node-clause-ok : goal.returns-in_ok-take-in-Node-clause-ok
returns-in_ok-take-in-Node-clause-ok g c =
    node_took g.D.Disk c.args.plan.now c.args.actor c.args.number c.args.m.now c.args.slot.now c.plan.inside.topology (ap (λ (p : Content). p.topology) c.plan.view_is)
    c.in-Node.node c.take.new.self c.in_ok-take-in-Node.field-0 c.in-Node.is c.in_ok-take-in-Node.ensures.ok c.take.ensures.up c.take.ensures.disk

pub returns-in_ok-take-in-Node-clause-strict : goal.returns-in_ok-take-in-Node-clause-strict
returns-in_ok-take-in-Node-clause-strict g c =
    node_took_strictly g.D.Disk c.args.plan.now c.args.actor c.args.number c.args.m.now c.args.slot.now c.plan.inside.topology (ap (λ (p : Content). p.topology) c.plan.view_is)
    c.in-Node.node c.take.new.self c.in_ok-take-in-Node.field-0 c.in-Node.is c.take.ensures.strict

pub returns-else-not-can_be_taken-clause-ok : goal.returns-else-not-can_be_taken-clause-ok
returns-else-not-can_be_taken-clause-ok g c =
    store_called g.D.Disk c.args.plan.now c.args.actor c.args.number c.args.m.now c.args.slot.now c.plan.inside.topology (ap (λ (p : Content). p.topology) c.plan.view_is)
    c.in-Store.store c.in-Store.is c.take-in-Store.new.self c.take-in-Store.result c.take-in-Store.ensures.ok c.take-in-Store.ensures.down (steps_up c.take-in-Store.result _ _ c.take-in-Store.ensures.faults) c.take-in-Store.ensures.faults.cause

pub returns-else-not-can_be_taken-clause-strict : goal.returns-else-not-can_be_taken-clause-strict
returns-else-not-can_be_taken-clause-strict g c =
    store_called_strictly g.D.Disk c.args.plan.now c.args.actor c.args.number c.args.m.now c.args.slot.now c.plan.inside.topology (ap (λ (p : Content). p.topology) c.plan.view_is)
    c.in-Store.store c.in-Store.is c.take-in-Store.new.self c.take-in-Store.result c.take-in-Store.ensures.strict

pub returns-else-not-can_be_taken-clause-safe : goal.returns-else-not-can_be_taken-clause-safe
returns-else-not-can_be_taken-clause-safe g c =
    store_takes_on g.D.Disk c.args.plan.now c.plan.inside.topology (ap (λ (p : Content). p.topology) c.plan.view_is) c.args.actor c.args.slot.now c.in-Store.store c.in-Store.is c.take-in-Store.new.self c.args.number c.args.m.now (omega (arith, c.top.ensures, c.if-top-gt-MOST_TESTED.false)) c.take-in-Store.result c.take-in-Store.ensures.ok

pub returns-in_ok-take-in-Node-clause-safe : goal.returns-in_ok-take-in-Node-clause-safe
returns-in_ok-take-in-Node-clause-safe g c =
    takes_on g.D.Disk c.args.plan.now c.plan.inside.topology (ap (λ (p : Content). p.topology) c.plan.view_is) c.args.actor c.args.slot.now c.in-Node.node c.in-Node.is c.take.new.self c.args.m.now c.in_ok-take-in-Node.field-0 (omega (arith, c.top.ensures, c.if-top-gt-MOST_TESTED.false)) (sym c.is_down.ensures ∙ c.if-is_down.false) c.in_ok-take-in-Node.ensures.ok
