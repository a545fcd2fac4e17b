use Rattle.acc_store.proofs.Planned.{opening_at, plan_at, taken}
use Rattle.acc_store.proofs.steps.take.Goals as goal

pub take_opening-requires-clause-opening : goal.take_opening-requires-clause-opening
take_opening-requires-clause-opening c =
    (opening_at c.args.topology.now c.args.shelf.now c.args.m.now c.args.prepared c.in-Opens.step c.in-Opens.is c.requires).opening

pub take_opening-requires-clause-ready : goal.take_opening-requires-clause-ready
take_opening-requires-clause-ready c =
    (opening_at c.args.topology.now c.args.shelf.now c.args.m.now c.args.prepared c.in-Opens.step c.in-Opens.is c.requires).ready

pub take_quiet-requires : goal.take_quiet-requires
take_quiet-requires c = (plan_at c.args.topology.now c.args.shelf.now c.args.m.now c.args.prepared c.in-Quiet.plan c.in-Quiet.is c.requires).new

pub returns-in-Quiet-clause-ok : goal.returns-in-Quiet-clause-ok
returns-in-Quiet-clause-ok c =
    taken c.args.topology.now c.args.shelf.now c.args.m.now c.in-Quiet.plan c.take_quiet.new.self c.take_quiet.result
    (plan_at c.args.topology.now c.args.shelf.now c.args.m.now c.args.prepared c.in-Quiet.plan c.in-Quiet.is c.requires)
    c.take_quiet.ensures.sent c.take_quiet.ensures.ok
