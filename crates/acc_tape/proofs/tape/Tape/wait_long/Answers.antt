use Rattle.std.proofs.Common.{ap, ◌∙◌, sym, arith}
use Rattle.acc_tape.proofs.Steps.{looks_ok}
use Rattle.acc_tape.proofs.tape.Tape.wait_long.Goals as goal

pub load-requires : goal.load-requires
load-requires g c =
    let l = c.loop.invariant in
    let r = c.requires.ticket in
    let words = c.self.invariant.0 in (
      l.tape ∙ c.requires.tape.0 ∙ ap (λ v. v.table) (sym c.self.view_is),
      omega arith,
      looks_ok g.E.Posted.actor_of _ _ _ c.args.ticket c.loop.token.me (ap (λ m. m.0.is_live) l.me ∙ r.0) (ap (λ m. m.0.ticket) l.me ∙ r.1) (ap (λ m. m.0.taken) l.me ∙ r.2) (ap (λ m. m.1) l.me ∙ r.3),
    )
