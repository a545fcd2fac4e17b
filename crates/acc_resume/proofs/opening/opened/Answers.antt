-- The actors of the plan are opened, and stand for each run that left their journals.
use Rattle.acc_resume.specs.Opened.{memory}
use Rattle.acc_resume.proofs.OpenedCluster.{nodes_of_plan, stores_of_plan, low_pasts, are_actors, opened_stands}
use Rattle.acc_resume.proofs.opening.opened.Goals as goal

pub of-requires-clause-nodes : goal.of-requires-clause-nodes
of-requires-clause-nodes c = nodes_of_plan memory c.args.plan.now c.args.images.now c.in_ok-nodes.nodes.items c.in_ok-stores.stores.items c.in_ok-nodes.ensures c.in_ok-stores.ensures

pub of-requires-clause-stores : goal.of-requires-clause-stores
of-requires-clause-stores c = stores_of_plan memory c.args.plan.now c.args.images.now c.in_ok-nodes.nodes.items c.in_ok-stores.stores.items c.in_ok-nodes.ensures c.in_ok-stores.ensures

pub of-requires-clause-actors : goal.of-requires-clause-actors
of-requires-clause-actors c = are_actors memory c.args.plan.now c.args.images.now c.in_ok-nodes.nodes.items c.in_ok-stores.stores.items c.in_ok-nodes.ensures c.in_ok-stores.ensures

pub of-requires-clause-pasts : goal.of-requires-clause-pasts
of-requires-clause-pasts c = low_pasts memory c.args.plan.now c.args.images.now c.in_ok-nodes.nodes.items c.in_ok-stores.stores.items c.in_ok-nodes.ensures c.in_ok-stores.ensures

pub returns-clause-stands : goal.returns-clause-stands
returns-clause-stands c =
    let plan = c.args.plan.now in
    let images = c.args.images.now in
    opened_stands memory plan images c.in_ok-nodes.nodes.items c.in_ok-stores.stores.items c.in_ok-nodes.ensures c.in_ok-stores.ensures
    (c.plans_are_valid.ensures plan c.requires.is_plan) (c.plans_have_few_bodies.ensures plan c.requires.is_plan)
    (λ s keeps has room. let on = c.left_runs_go_on.ensures plan s keeps images c.requires.is_plan has in (on.run, on.up)) c.of.result c.of.ensures.strict
