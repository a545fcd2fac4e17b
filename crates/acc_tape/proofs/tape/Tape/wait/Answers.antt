use Rattle.std.proofs.Common.{ap, ◌∙◌, sym, arith}
use Rattle.acc_tape.proofs.Steps.{looks_ok}
use Rattle.acc_tape.proofs.tape.Tape.wait.Goals as goal

pub load-requires : goal.load-requires
load-requires g c =
    let r = c.requires.ticket in
    let words = c.self.invariant.0 in (
      c.requires.tape.0 ∙ ap (λ v. v.table) (sym c.self.view_is),
      omega arith,
      looks_ok g.E.Posted.actor_of _ _ _ c.args.ticket c.args.token.now.me r.0 r.1 r.2 r.3,
    )
