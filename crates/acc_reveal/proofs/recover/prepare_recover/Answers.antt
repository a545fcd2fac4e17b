use Rattle.acc_reveal.proofs.Step.{prepared}
use Rattle.acc_reveal.proofs.recover.prepare_recover.Goals as goal

pub returns : goal.returns
returns c =
    prepared c.args.topology.now c.args.shelf.now c.args.m.now c.in-Recover.from c.in-Recover.to c.in-Recover.id c.in-Recover.ballot c.in-Recover.body
    c.in_ok-share-in-Recover.share c.top.result c.in-Recover.is c.in_ok-share-in-Recover.ensures c.top.ensures c.prepare.result
    c.prepare.ensures.plans c.prepare.ensures.changes c.prepare.ensures.sends
