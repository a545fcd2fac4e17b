use Rattle.std.proofs.Common.{sym, ◌∙◌, subst}
use Rattle.acc_message_code.specs.Weight.{weight_of}
use Rattle.acc_tape.specs.ItemViews.{actor_of_item}
use Rattle.acc_tape.specs.Seats.{Turns}
use Rattle.acc_desk.specs.Fits.{fits_plan}
use Rattle.acc_desk.proofs.Opening.{first_desk}
use Rattle.acc_desk.proofs.desk.Desk.new.Goals as goal

pub returns-clause-sound : goal.returns-clause-sound
returns-clause-sound g c =
    let turns = subst (λ p. Turns actor_of_item weight_of (fits_plan p) c.args.seat c.next_for-next.new.seat) (sym c.requires.plan) c.next_for-next.ensures.turn in
    first_desk g.D.Disk g.J.Planned.strict c.args.plan.now c.args.tape.now c.requires.limits c.args.actor c.args.slot c.requires.serving c.requires.known c.new.result (c.new.ensures ∙ c.requires.commands)
    c.args.seat c.next_for-next.new.seat c.requires.seat.0 c.requires.seat.1 c.requires.seat.2 c.requires.seat.3 (c.requires.seat.4, c.requires.seat.5) turns c.next_for-next.ensures.same.0 (c.next_for-next.ensures.same.1, c.next_for-next.ensures.same.2) c.requires.slot c.requires.strict
