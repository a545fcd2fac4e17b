-- No desk is made so far.
use Rattle.acc_free.proofs.Openings.{none_opened}
use Rattle.acc_free.proofs.opening.desks.Goals as goal

pub put_nodes-requires-clause-opened : goal.put_nodes-requires-clause-opened
put_nodes-requires-clause-opened g c κs within =
    let d = g.M.D.Disk in
    none_opened d g.J.Planned.strict c.args.plan.now c.args.tape.now c.args.first.now c.new-desks.result.items
    c.requires.first.0 c.requires.first.1 c.requires.first.2 c.new-desks.ensures.items
