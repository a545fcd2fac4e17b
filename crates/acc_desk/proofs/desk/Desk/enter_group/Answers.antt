use Rattle.std.proofs.Common.{◌≡◌, ◌≤◌, List, ◌++◌, length, sym, ◌∙◌, ap, subst, arith}
use Rattle.std.specs.Prelude.{All, sum_by}
use Rattle.acc_message.specs.declared.item.Item.{Item}
use Rattle.acc_message.specs.Items.{sent_in, noted_in}
use Rattle.acc_message_code.specs.Short.{IsShortMessage}
use Rattle.acc_message_code.specs.Weight.{weight_of}
use Rattle.acc_schedule_runs.specs.Schedules.{cluster_of}
use Rattle.acc_free_laws.specs.FreeRun.{alone}
use Rattle.acc_tape.specs.ItemViews.{actor_of_item}
use Rattle.acc_tape.specs.Seats.{Turns, FitAllBehind, ComeLast}
use Rattle.acc_desk.specs.Fits.{fits_plan}
use Rattle.acc_desk.proofs.Seating.{holds_items, holds_weight, held_none}
use Rattle.acc_desk.proofs.Puts.{puts_few, puts_own, puts_short, puts_noted, puts_weigh, puts_fit, puts_on}
use Rattle.acc_desk.proofs.Chosen.{longer_by, entered_steps}
use Rattle.acc_desk.proofs.desk.Desk.enter_group.Goals as goal

pub items_for-items-requires : goal.items_for-items-requires
items_for-items-requires g c = (c.requires.room.0, (let m = c.requires.group.1.most in let r = c.requires.room.1 in omega arith))

pub put_all-requires-clause-held : goal.put_all-requires-clause-held
put_all-requires-clause-held g c =
    let self = c.args.self.now in
    let q = c.requires.group in
    let n = ap (λ (l : List Item). length l) c.items_for-items.ensures in
    let f = puts_few g.D.Disk g.J.Planned.strict c.args.plan.now c.args.tape.now c.requires.limits self.actor self.commands self.gone self.slot c.args.hold q.0 c.args.unsent self.seat q.1 in (
      omega arith,
      holds_items self.seat c.args.hold q.1.seated.held_is,
      holds_weight self.seat c.args.hold q.1.seated.held_is,
    )

pub put_all-requires-clause-own : goal.put_all-requires-clause-own
put_all-requires-clause-own g c =
    let self = c.args.self.now in
    let q = c.requires.group in
    subst (All (λ item. actor_of_item item ≡ self.seat.actor)) (sym c.items_for-items.ensures) (puts_own g.D.Disk g.J.Planned.strict c.args.plan.now c.args.tape.now c.requires.limits self.actor self.commands self.gone self.slot c.args.hold q.0 c.args.unsent self.seat q.1)

pub put_all-requires-clause-bytes : goal.put_all-requires-clause-bytes
put_all-requires-clause-bytes g c =
    let self = c.args.self.now in
    let q = c.requires.group in (
      subst (All (λ item. All IsShortMessage (sent_in item))) (sym c.items_for-items.ensures) (puts_short g.D.Disk g.J.Planned.strict c.args.plan.now c.args.tape.now c.requires.limits self.actor self.commands self.gone self.slot c.args.hold q.0 c.args.unsent self.seat q.1),
      subst (λ (items : List Item). sum_by weight_of items ≤ c.args.hold.weight) (sym c.items_for-items.ensures) (puts_weigh g.D.Disk g.J.Planned.strict c.args.plan.now c.args.tape.now c.requires.limits self.actor self.commands self.gone self.slot c.args.hold q.0 c.args.unsent self.seat q.1),
    )

pub put_all-requires-clause-notes : goal.put_all-requires-clause-notes
put_all-requires-clause-notes g c =
    let self = c.args.self.now in
    let q = c.requires.group in
    subst (All (λ item. length (noted_in item) ≤ 2)) (sym c.items_for-items.ensures) (puts_noted g.D.Disk g.J.Planned.strict c.args.plan.now c.args.tape.now c.requires.limits self.actor self.commands self.gone self.slot c.args.hold q.0 c.args.unsent self.seat q.1)

pub put_all-requires-clause-fits : goal.put_all-requires-clause-fits
put_all-requires-clause-fits g c =
    let self = c.args.self.now in
    let q = c.requires.group in
    subst (λ p. FitAllBehind actor_of_item (fits_plan p) self.seat c.items_for-items.result.0.items) c.requires.plan
    (subst (FitAllBehind actor_of_item (fits_plan c.args.plan.now) self.seat) (sym c.items_for-items.ensures) (puts_fit g.D.Disk g.J.Planned.strict c.args.plan.now c.args.tape.now c.requires.limits self.actor self.commands self.gone self.slot c.args.hold q.0 c.args.unsent self.seat q.1))

pub returns-clause-sound : goal.returns-clause-sound
returns-clause-sound g c =
    let self = c.args.self.now in
    let q = c.requires.group in
    let new = c.put_all.new.seat in
    let turns = subst (λ p. Turns actor_of_item weight_of (fits_plan p) self.seat new) (sym c.requires.plan) c.put_all.ensures.turn in
    let last = subst (λ p. ComeLast actor_of_item (fits_plan p) self.seat new.seen c.items_for-items.result.0.items) (sym c.requires.plan) c.put_all.ensures.behind in
    puts_on g.D.Disk g.J.Planned.strict c.args.plan.now c.args.tape.now c.requires.limits self.actor self.commands self.gone self.slot c.args.hold q.0 c.args.unsent self.seat q.1 new turns
    (held_none self.seat new c.args.hold q.1.seated.held_is c.put_all.ensures.held.0 c.put_all.ensures.held.1)
    (subst (ComeLast actor_of_item (fits_plan c.args.plan.now) self.seat new.seen) c.items_for-items.ensures last)

pub returns-clause-longer : goal.returns-clause-longer
returns-clause-longer g c = λ some. longer_by c.args.self.now.actor c.args.unsent c.args.self.now.seat.mine c.put_all.new.seat.mine some (c.put_all.ensures.mine ∙ ap (λ (l : List Item). c.args.self.now.seat.mine ++ l) c.items_for-items.ensures)

pub returns-clause-entered : goal.returns-clause-entered
returns-clause-entered g c = λ events desk.
    let self = c.args.self.now in
    entered_steps (cluster_of c.args.plan.now) (alone desk.entering.before desk.entering.stopped) self.actor events c.args.unsent self.seat c.put_all.new.seat desk.entering.steps
    c.put_all.ensures.turn.seen (c.put_all.ensures.mine ∙ ap (λ (l : List Item). self.seat.mine ++ l) c.items_for-items.ensures)
