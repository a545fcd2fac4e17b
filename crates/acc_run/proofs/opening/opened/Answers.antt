use Rattle.std.proofs.Common.{◌∙◌}
use Rattle.acc_stamp.proofs.Rising.{each_weaker}
use Rattle.acc_cluster.specs.Opened.{IsNodeOf, IsStoreOf}
use Rattle.acc_run.specs.Fresh.{IsFreshNode, IsFreshStore}
use Rattle.acc_run.proofs.Beginning.{fresh_actors, no_item, opened_stands, opened_stands_strictly}
use Rattle.acc_run.proofs.opening.opened.Goals as goal

pub of-requires-clause-nodes : goal.of-requires-clause-nodes
of-requires-clause-nodes g c =
    each_weaker (IsFreshNode g.M.D.Disk c.args.plan.now) (IsNodeOf g.M.D.Disk c.args.plan.now) c.in_ok-nodes.nodes.items (λ n f. f.of_plan) c.in_ok-nodes.ensures.ok.each

pub of-requires-clause-stores : goal.of-requires-clause-stores
of-requires-clause-stores g c =
    each_weaker (IsFreshStore g.M.D.Disk c.args.plan.now) (IsStoreOf g.M.D.Disk c.args.plan.now) c.in_ok-stores.stores.items (λ t f. f.of_plan) c.in_ok-stores.ensures.ok.each

pub of-requires-clause-actors : goal.of-requires-clause-actors
of-requires-clause-actors g c = fresh_actors g.M.D.Disk c.args.plan.now c.in_ok-nodes.nodes.items c.in_ok-stores.stores.items c.in_ok-nodes.ensures.ok c.in_ok-stores.ensures.ok

pub returns-clause-ok : goal.returns-clause-ok
returns-clause-ok g c =
    let valid = c.plans_are_valid.ensures c.args.plan.now c.requires.is_plan in
    let few = c.plans_have_few_bodies.ensures c.args.plan.now c.requires.is_plan in
    let none = no_item g.M.D.Disk c.args.plan.now c.in_ok-nodes.nodes.items c.in_ok-stores.stores.items valid few c.in_ok-nodes.ensures.ok c.in_ok-stores.ensures.ok in
    opened_stands g.M.D.Disk c.args.plan.now c.in_ok-nodes.nodes.items c.in_ok-stores.stores.items none c.of.result c.of.ensures.ok

pub returns-clause-strict : goal.returns-clause-strict
returns-clause-strict g c =
    let valid = c.plans_are_valid.ensures c.args.plan.now c.requires.is_plan in
    let few = c.plans_have_few_bodies.ensures c.args.plan.now c.requires.is_plan in
    let none = no_item g.M.D.Disk c.args.plan.now c.in_ok-nodes.nodes.items c.in_ok-stores.stores.items valid few c.in_ok-nodes.ensures.ok c.in_ok-stores.ensures.ok in
    λ s.
    opened_stands_strictly g.M.D.Disk c.args.plan.now c.in_ok-nodes.nodes.items c.in_ok-stores.stores.items none
    (record { nodes_are = c.in_ok-nodes.ensures.strict s; stores_are = c.in_ok-stores.ensures.strict (c.in_ok-nodes.ensures.kind ∙ s) }) c.of.result c.of.ensures.strict
