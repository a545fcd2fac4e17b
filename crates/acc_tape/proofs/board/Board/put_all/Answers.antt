use Rattle.std.proofs.Common.{ap}
use Rattle.acc_tape.proofs.Entering.{next_fits}
use Rattle.acc_tape.proofs.board.Board.put_all.Goals as goal

pub put-requires-clause-fits : goal.put-requires-clause-fits
put-requires-clause-fits g c =
    let l = c.loop-item.invariant in
    λ fit. next_fits g.R.Rules.fits c.args.self.now.items c.args.entering.items c.loop-item.yielded _ _ c.in-Some.item l.rest c.in-Some.ensures.steps.0 c.loop-item.self.items (ap (λ b. b.items) l.board) (c.requires.fits c.confirm.ensures.within.fitting)

pub returns-clause-fits : goal.returns-clause-fits
returns-clause-fits g c = c.confirm.ensures.within.fitting
