use Rattle.acc_accept.proofs.Accepts.{prepared}
use Rattle.acc_accept.proofs.step.prepare_accept.Goals as goal

pub returns : goal.returns
returns c =
    prepared c.args.topology.now c.args.shelf.now c.args.m.now c.in-Accept.from c.in-Accept.to c.in-Accept.id c.in-Accept.ballot c.in-Accept.body c.in-Accept.t c.in-Accept.deps
    c.in_ok-share-in-Accept.share c.top.result c.in-Accept.is c.in_ok-share-in-Accept.ensures c.top.ensures c.in_ok-copy-in-Accept.field-0 c.accept.result
    c.in_ok-copy-in-Accept.ensures c.accept.ensures.plans c.accept.ensures.changes c.accept.ensures.sends
