-- The plan has a number from 1 to 15 for each node, and starts no clock above 10^12.
use Rattle.std.proofs.Common.{sym, ap, subst}
use Rattle.acc_durable_node.specs.Names.{IsNodeName}
use Rattle.acc_schedule.specs.Content.{Content}
use Rattle.acc_schedule.specs.View.{content}
use Rattle.acc_actors.proofs.NodeRange.{started, name_range}
use Rattle.acc_actors.proofs.fresh.name_of.Goals as goal

pub returns-clause-name : goal.returns-clause-name
returns-clause-name c =
    let begins = started c.args.plan.now (content c.plan.inside) (sym c.plan.view_is) c.plan.invariant c.args.number c.as_slice.result.now c.start_of-start.result c.as_slice.ensures c.start_of-start.ensures in
    let version = ap (λ (p : Content). p.version) c.plan.view_is in
    λ i. record { number = c.args.number; start = begins i; version = version i }

pub returns-clause-range : goal.returns-clause-range
returns-clause-range c =
    subst IsNodeName (sym (returns-clause-name c)) (name_range c.args.plan.now (content c.plan.inside) (sym c.plan.view_is) c.plan.invariant c.args.number c.requires)
