use Rattle.std.proofs.Common.{ap, ◌∙◌, sym, refl, arith}
use Rattle.acc_tape.proofs.Steps.{leaves_as}
use Rattle.acc_tape.proofs.tape.Tape.leave.Goals as goal

pub fetch_add-requires : goal.fetch_add-requires
fetch_add-requires g c = let i = c.self.invariant.0 in (c.requires.tape ∙ ap (λ v. v.table) (sym c.self.view_is), omega arith, leaves_as g.E.Posted.actor_of _ _ _ 1 c.args.token.now.me refl c.requires.turn)
