use Rattle.std.proofs.Common.{sym, subst}
use Rattle.acc_opening.specs.Turns.{HasTurn}
use Rattle.acc_opening.proofs.QueueFacts.{has_new}
use Rattle.acc_opening.proofs.queue.put.Goals as goal

pub returns : goal.returns
returns c =
    let turns = c.args.queue.now in
    subst (HasTurn c.args.turn turns) (sym c.in_ok-insert.ensures.ok) (has_new c.args.turn turns c.args.place c.requires.rises c.requires.gap)
