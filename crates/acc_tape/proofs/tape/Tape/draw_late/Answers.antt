use Rattle.std.proofs.Common.{ap, ◌∙◌, sym, subst, arith}
use Rattle.acc_tape.specs.Turn.{IsResting}
use Rattle.acc_tape.proofs.Steps.{draws_ok}
use Rattle.acc_tape.proofs.tape.Tape.draw_late.Goals as goal

pub compare_exchange-requires : goal.compare_exchange-requires
compare_exchange-requires g c =
    let l = c.loop.invariant in
    let words = c.self.invariant.0 in (
      l.tape ∙ c.requires.tape.0 ∙ ap (λ v. v.table) (sym c.self.view_is),
      omega arith,
      draws_ok g.E.Posted.actor_of _ _ _ c.peek-ticket.result c.loop.token.me (subst IsResting (sym l.me) c.requires.rests) c.if-ticket-lt-MOST_TICKETS.true,
    )
