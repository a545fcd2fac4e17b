use Rattle.std.proofs.Common.{sym, ap}
use Rattle.acc_tape.proofs.Mailing.{next_waits}
use Rattle.acc_tape.proofs.board.Board.next_for.Goals as goal

pub returns-clause-next : goal.returns-clause-next
returns-clause-next g c = let p = g.E.Posted in rw (ap (λ v. v.items) (sym c.self.view_is)) (next_waits p.took p.sent_to p.is_lost _ _ c.self.invariant.0.index c.args.actor 0 c.next_for.result c.next_for.ensures.next)
