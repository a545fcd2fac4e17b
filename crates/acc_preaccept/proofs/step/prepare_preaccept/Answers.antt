use Rattle.acc_preaccept.proofs.Whole.{prepared}
use Rattle.acc_preaccept.proofs.step.prepare_preaccept.Goals as goal

pub returns : goal.returns
returns c =
    prepared c.args.topology.now c.args.shelf.now c.args.m.now c.in-PreAccept.from c.in-PreAccept.to c.in-PreAccept.id c.in-PreAccept.ballot c.in-PreAccept.body
    c.in_ok-share-in-PreAccept.share c.top.result c.in-PreAccept.is c.in_ok-share-in-PreAccept.ensures c.top.ensures c.prepare.result c.prepare.ensures.plans
    c.prepare.ensures.changes c.prepare.ensures.sends
