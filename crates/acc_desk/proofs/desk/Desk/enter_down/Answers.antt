use Rattle.std.proofs.Common.{sym, subst, arith}
use Rattle.acc_message.specs.declared.item.Item.TheVariants.{Down}
use Rattle.acc_message_code.specs.Weight.{weight_of}
use Rattle.acc_tape.specs.ItemViews.{actor_of_item}
use Rattle.acc_tape.specs.Seats.{Turns, FitsBehind, ComesLast}
use Rattle.acc_desk.specs.Fits.{fits_plan}
use Rattle.acc_desk.proofs.Seating.{holds_items, holds_weight, held_none}
use Rattle.acc_desk.proofs.Puts.{down_own, down_short, down_weighs, down_fits_behind, down_on}
use Rattle.acc_desk.proofs.Chosen.{entered_down}
use Rattle.acc_desk.proofs.desk.Desk.enter_down.Goals as goal

pub put-requires-clause-held : goal.put-requires-clause-held
put-requires-clause-held g c =
    let self = c.args.self.now in
    let stopping = c.requires.group.2 in (
      stopping.some,
      holds_items self.seat c.args.hold stopping.desk.seated.held_is,
      holds_weight self.seat c.args.hold stopping.desk.seated.held_is,
    )

pub put-requires-clause-item : goal.put-requires-clause-item
put-requires-clause-item g c =
    let self = c.args.self.now in
    let q = c.requires.group in (
      down_own g.D.Disk g.J.Planned.strict c.args.plan.now c.args.tape.now c.requires.limits self.actor self.commands self.gone q.0 self.slot q.1 c.args.hold self.seat q.2,
      down_short g.D.Disk g.J.Planned.strict c.args.plan.now c.args.tape.now c.requires.limits self.actor self.commands self.gone q.0 self.slot q.1 c.args.hold self.seat q.2,
      down_weighs g.D.Disk g.J.Planned.strict c.args.plan.now c.args.tape.now c.requires.limits self.actor self.commands self.gone q.0 self.slot q.1 c.args.hold self.seat q.2,
    )

pub put-requires-clause-fits : goal.put-requires-clause-fits
put-requires-clause-fits g c =
    let self = c.args.self.now in
    let q = c.requires.group in
    subst (λ p. FitsBehind actor_of_item (fits_plan p) self.seat (Down self.actor)) c.requires.plan (down_fits_behind g.D.Disk g.J.Planned.strict c.args.plan.now c.args.tape.now c.requires.limits self.actor self.commands self.gone q.0 self.slot q.1 c.args.hold self.seat q.2)

pub put-requires-clause-notes : goal.put-requires-clause-notes
put-requires-clause-notes g c = omega arith

pub returns-clause-sound : goal.returns-clause-sound
returns-clause-sound g c =
    let self = c.args.self.now in
    let q = c.requires.group in
    let turns = subst (λ p. Turns actor_of_item weight_of (fits_plan p) self.seat c.put.new.seat) (sym c.requires.plan) c.put.ensures.turn in
    down_on g.D.Disk g.J.Planned.strict c.args.plan.now c.args.tape.now c.requires.limits self.actor self.commands self.gone q.0 self.slot q.1 c.args.hold self.seat q.2 c.put.new.seat turns
    (held_none self.seat c.put.new.seat c.args.hold q.2.desk.seated.held_is c.put.ensures.held.0 c.put.ensures.held.1)
    (subst (λ p. ComesLast actor_of_item (fits_plan p) self.seat c.put.new.seat.seen (Down self.actor)) (sym c.requires.plan) c.put.ensures.behind)

pub returns-clause-entered : goal.returns-clause-entered
returns-clause-entered g c = λ events. entered_down c.args.self.now.actor events c.args.self.now.seat c.put.new.seat c.put.ensures.turn.seen c.put.ensures.mine
