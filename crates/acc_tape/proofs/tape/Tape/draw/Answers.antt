use Rattle.std.proofs.Common.{ap, ◌∙◌, sym, arith}
use Rattle.acc_tape.proofs.Steps.{draws_ok}
use Rattle.acc_tape.proofs.tape.Tape.draw.Goals as goal

pub compare_exchange-requires : goal.compare_exchange-requires
compare_exchange-requires g c =
    let words = c.self.invariant.0 in (
      c.requires.tape.0 ∙ ap (λ v. v.table) (sym c.self.view_is),
      omega arith,
      draws_ok g.E.Posted.actor_of _ _ _ c.peek-ticket.result c.args.token.now.me c.requires.rests c.if-ticket-lt-MOST_TICKETS.true,
    )
