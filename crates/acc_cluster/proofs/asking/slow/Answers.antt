use Rattle.std.proofs.Common.{ap, sym, ◌∙◌}
use Rattle.acc_schedule.specs.Content.{Content}
use Rattle.acc_actors.proofs.SlowSlots.{slow_ok, slow_refused, slow_as_before, slow_strictly, slow_strict_as_before}
use Rattle.acc_cluster.proofs.Safe.{slows_on, still_on}
use Rattle.acc_cluster.proofs.asking.slow.Goals as goal

pub returns-clause-ok : goal.returns-clause-ok
returns-clause-ok g c =
    slow_ok g.D.Disk c.args.plan.now c.args.actor c.args.txn c.args.slot.now c.in-Node.node c.in-Node.is c.plan.inside.topology (ap (λ (p : Content). p.topology) c.plan.view_is)
    c.slow.new.self c.slow.ensures.up c.slow.ensures.disk c.slow.result c.slow.ensures.ok

pub returns-clause-refused : goal.returns-clause-refused
returns-clause-refused g c =
    slow_refused g.D.Disk c.args.plan.now c.args.actor c.args.txn c.args.slot.now c.in-Node.node c.in-Node.is c.plan.inside.topology (ap (λ (p : Content). p.topology) c.plan.view_is)
    c.slow.result c.slow.ensures.refused

pub returns-clause-as_before : goal.returns-clause-as_before
returns-clause-as_before g c =
    slow_as_before g.D.Disk c.args.plan.now c.args.actor c.args.txn c.args.slot.now c.in-Node.node c.in-Node.is c.plan.inside.topology (ap (λ (p : Content). p.topology) c.plan.view_is)
    c.slow.new.self c.slow.ensures.up c.slow.ensures.disk c.slow.result c.slow.ensures.err

pub returns-clause-strict : goal.returns-clause-strict
returns-clause-strict g c =
    slow_strictly g.D.Disk c.args.plan.now c.args.actor c.args.txn c.args.slot.now c.in-Node.node c.in-Node.is c.plan.inside.topology (ap (λ (p : Content). p.topology) c.plan.view_is)
    c.slow.new.self c.slow.ensures.up c.slow.ensures.disk
    c.slow.ensures.strict c.slow.result c.slow.ensures.ok

pub returns-clause-strict_as_before : goal.returns-clause-strict_as_before
returns-clause-strict_as_before g c =
    slow_strict_as_before g.D.Disk c.args.plan.now c.args.actor c.args.txn c.args.slot.now c.in-Node.node c.in-Node.is c.plan.inside.topology (ap (λ (p : Content). p.topology) c.plan.view_is)
    c.slow.new.self c.slow.ensures.up c.slow.ensures.disk
    c.slow.ensures.strict c.slow.result

pub returns-clause-safe : goal.returns-clause-safe
returns-clause-safe g c =
    slows_on g.D.Disk c.args.plan.now c.plan.inside.topology (ap (λ (p : Content). p.topology) c.plan.view_is) c.args.actor c.args.slot.now c.in-Node.node c.in-Node.is c.slow.new.self c.args.txn (sym c.is_down.ensures ∙ c.if-is_down.false) c.slow.result c.slow.ensures.ok

pub returns-clause-still_safe : goal.returns-clause-still_safe
returns-clause-still_safe g c =
    still_on g.D.Disk c.args.plan.now c.plan.inside.topology (ap (λ (p : Content). p.topology) c.plan.view_is) c.args.actor c.args.slot.now c.in-Node.node c.in-Node.is c.slow.new.self c.slow.result c.slow.ensures.err
