use Rattle.std.proofs.Common.{sym, subst}
use Rattle.acc_message_code.specs.Weight.{weight_of}
use Rattle.acc_tape.specs.ItemViews.{actor_of_item}
use Rattle.acc_tape.specs.Seats.{Turns}
use Rattle.acc_desk.specs.Fits.{fits_plan}
use Rattle.acc_desk.proofs.Puts.{released_desk}
use Rattle.acc_desk.proofs.desk.Desk.let_go.Goals as goal

pub returns-then-hold-gt0-clause-sound : goal.returns-then-hold-gt0-clause-sound
returns-then-hold-gt0-clause-sound g c = λ desk.
    let self = c.args.self.now in
    let turns = subst (λ p. Turns actor_of_item weight_of (fits_plan p) self.seat c.release.new.seat) (sym c.requires.plan) c.release.ensures.turn in
    released_desk g.D.Disk g.J.Planned.strict c.args.plan.now c.args.tape.now c.requires.limits self.actor self.commands self.gone c.args.hold self.seat c.release.new.seat turns c.release.ensures.held.0 c.release.ensures.held.1 self.slot c.release.ensures.same.0 desk
