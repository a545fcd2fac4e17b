use Rattle.std.proofs.Common.{inr, ◌+◌, length, refl, sym, ap, ◌∙◌, subst, arith}
use Rattle.acc_message_code.specs.Weight.{weight_of}
use Rattle.std.specs.Prelude.{sum_by}
use Rattle.acc_tape.specs.Refusals.{Refuses}
use Rattle.acc_tape.specs.ItemViews.{actor_of_item}
use Rattle.acc_tape.specs.Seats.{Turns, FitsBehind, ComesLast}
use Rattle.acc_desk.specs.Asks.{event_of, act_of_ask}
use Rattle.acc_desk.specs.declared.hold.Hold.{Hold}
use Rattle.acc_desk.specs.Desks.{run_with, no_hold, item_of}
use Rattle.acc_desk.specs.declared.turning.Turned.TheVariants.{Idle}
use Rattle.acc_desk.specs.Fits.{fits_plan}
use Rattle.acc_desk.proofs.Seating.{desk_on, may_on, asks, own, short, noted, weighs, fits, taken, seated_on, holds_items, holds_weight, held_same, held_first, held_none}
use Rattle.acc_desk.proofs.Rooms.{asked_no_room}
use Rattle.acc_desk.proofs.Chosen.{entered_one}
use Rattle.acc_desk.proofs.Marked.{on_err, no_answer, kept_down, keeps, still_sound, desk_stays}
use Rattle.acc_desk.proofs.desk.Desk.take.Goals as goal

pub weigh-requires : goal.weigh-requires
weigh-requires g c = asks c.args.plan.now c.args.tape.now c.requires.limits c.args.self.now.actor g.D.Disk g.J.Planned.strict c.args.self.now.commands c.args.self.now.gone c.args.self.now.slot (event_of c.args.ask) (act_of_ask c.args.ask) c.args.gone no_hold c.args.self.now.seat c.requires.desk c.requires.may

pub returns-in-Err-Full-clause-ok : goal.returns-in-Err-Full-clause-ok
returns-in-Err-Full-clause-ok g c =
    let turns = subst (λ p. Turns actor_of_item weight_of (fits_plan p) c.args.self.now.seat c.reserve.new.seat) (sym c.requires.plan) c.reserve.ensures.turn in
    desk_on c.args.plan.now c.args.tape.now c.requires.limits c.args.self.now.actor g.D.Disk g.J.Planned.strict c.args.self.now.commands c.args.self.now.gone c.args.self.now.slot no_hold no_hold c.args.self.now.seat c.reserve.new.seat c.requires.desk turns c.reserve.ensures.same.0 (held_same c.args.self.now.seat c.reserve.new.seat no_hold c.requires.desk.seated.held_is c.in-Err-Full.ensures.err.0 c.in-Err-Full.ensures.err.1)

pub step-requires : goal.step-requires
step-requires g c =
    let a = c.args.self.now.actor in
    let w = c.in_ok-weight.weight in
    let event = event_of c.args.ask in
    let act = act_of_ask c.args.ask in
    let turns = subst (λ p. Turns actor_of_item weight_of (fits_plan p) c.args.self.now.seat c.reserve.new.seat) (sym c.requires.plan) c.reserve.ensures.turn in
    let hold : Hold = record { items = 1; weight = w } in
    let held = held_first c.args.self.now.seat c.reserve.new.seat hold c.requires.desk.seated.held_is c.in-Ok.ensures.ok.0 c.in-Ok.ensures.ok.1 in
    let desk = desk_on c.args.plan.now c.args.tape.now c.requires.limits a g.D.Disk g.J.Planned.strict c.args.self.now.commands c.args.self.now.gone c.args.self.now.slot no_hold hold c.args.self.now.seat c.reserve.new.seat c.requires.desk turns c.reserve.ensures.same.0 held in
    let may = may_on c.args.plan.now c.args.tape.now c.requires.limits a g.D.Disk g.J.Planned.strict c.args.self.now.commands c.args.self.now.gone c.args.self.now.slot event act c.args.gone no_hold c.args.self.now.seat c.reserve.new.seat c.requires.desk turns c.reserve.ensures.same.0 c.requires.may in
    asks c.args.plan.now c.args.tape.now c.requires.limits a g.D.Disk g.J.Planned.strict c.args.self.now.commands c.args.self.now.gone c.args.self.now.slot event act c.args.gone hold c.reserve.new.seat desk may

pub release-requires-clause-held : goal.release-requires-clause-held
release-requires-clause-held g c =
    let w = c.in_ok-weight.weight in
    let hold : Hold = record { items = 1; weight = w } in
    let held = held_first c.args.self.now.seat c.reserve.new.seat hold c.requires.desk.seated.held_is c.in-Ok.ensures.ok.0 c.in-Ok.ensures.ok.1 in
    (holds_items c.reserve.new.seat hold held, holds_weight c.reserve.new.seat hold held)

pub put-requires-clause-held : goal.put-requires-clause-held
put-requires-clause-held g c =
    let w = c.in_ok-weight.weight in
    let hold : Hold = record { items = 1; weight = w } in
    let held = held_first c.args.self.now.seat c.reserve.new.seat hold c.requires.desk.seated.held_is c.in-Ok.ensures.ok.0 c.in-Ok.ensures.ok.1 in
    (omega arith, holds_items c.reserve.new.seat hold held, holds_weight c.reserve.new.seat hold held)

pub put-requires-clause-item : goal.put-requires-clause-item
put-requires-clause-item g c =
    let a = c.args.self.now.actor in
    let w = c.in_ok-weight.weight in
    let event = event_of c.args.ask in
    let act = act_of_ask c.args.ask in
    let turns = subst (λ p. Turns actor_of_item weight_of (fits_plan p) c.args.self.now.seat c.reserve.new.seat) (sym c.requires.plan) c.reserve.ensures.turn in
    let hold : Hold = record { items = 1; weight = w } in
    let held = held_first c.args.self.now.seat c.reserve.new.seat hold c.requires.desk.seated.held_is c.in-Ok.ensures.ok.0 c.in-Ok.ensures.ok.1 in
    let desk = desk_on c.args.plan.now c.args.tape.now c.requires.limits a g.D.Disk g.J.Planned.strict c.args.self.now.commands c.args.self.now.gone c.args.self.now.slot no_hold hold c.args.self.now.seat c.reserve.new.seat c.requires.desk turns c.reserve.ensures.same.0 held in
    let may = may_on c.args.plan.now c.args.tape.now c.requires.limits a g.D.Disk g.J.Planned.strict c.args.self.now.commands c.args.self.now.gone c.args.self.now.slot event act c.args.gone no_hold c.args.self.now.seat c.reserve.new.seat c.requires.desk turns c.reserve.ensures.same.0 c.requires.may in
    let item_is = c.item_for-item.ensures ∙ ap (λ e. item_of a e c.in-Ok-step.given) c.event.ensures in
    rw item_is (
      own c.args.plan.now c.args.tape.now c.requires.limits a g.D.Disk g.J.Planned.strict c.args.self.now.commands c.args.self.now.gone c.args.self.now.slot event act c.args.gone hold c.reserve.new.seat desk may c.in-Ok-step.given c.step.new.slot c.in-Ok-step.ensures.ok,
      short c.args.plan.now c.args.tape.now c.requires.limits a g.D.Disk g.J.Planned.strict c.args.self.now.commands c.args.self.now.gone c.args.self.now.slot event act c.args.gone hold c.reserve.new.seat desk may c.in-Ok-step.given c.step.new.slot c.in-Ok-step.ensures.ok,
      weighs c.args.plan.now c.args.tape.now c.requires.limits a g.D.Disk g.J.Planned.strict c.args.self.now.commands c.args.self.now.gone c.args.self.now.slot event act c.args.gone hold c.reserve.new.seat desk may c.in-Ok-step.given c.step.new.slot c.in-Ok-step.ensures.ok w c.in_ok-weight.ensures,
    )

pub put-requires-clause-notes : goal.put-requires-clause-notes
put-requires-clause-notes g c =
    let a = c.args.self.now.actor in
    let w = c.in_ok-weight.weight in
    let event = event_of c.args.ask in
    let act = act_of_ask c.args.ask in
    let turns = subst (λ p. Turns actor_of_item weight_of (fits_plan p) c.args.self.now.seat c.reserve.new.seat) (sym c.requires.plan) c.reserve.ensures.turn in
    let hold : Hold = record { items = 1; weight = w } in
    let held = held_first c.args.self.now.seat c.reserve.new.seat hold c.requires.desk.seated.held_is c.in-Ok.ensures.ok.0 c.in-Ok.ensures.ok.1 in
    let desk = desk_on c.args.plan.now c.args.tape.now c.requires.limits a g.D.Disk g.J.Planned.strict c.args.self.now.commands c.args.self.now.gone c.args.self.now.slot no_hold hold c.args.self.now.seat c.reserve.new.seat c.requires.desk turns c.reserve.ensures.same.0 held in
    let may = may_on c.args.plan.now c.args.tape.now c.requires.limits a g.D.Disk g.J.Planned.strict c.args.self.now.commands c.args.self.now.gone c.args.self.now.slot event act c.args.gone no_hold c.args.self.now.seat c.reserve.new.seat c.requires.desk turns c.reserve.ensures.same.0 c.requires.may in
    let item_is = c.item_for-item.ensures ∙ ap (λ e. item_of a e c.in-Ok-step.given) c.event.ensures in
    rw item_is (noted c.args.plan.now c.args.tape.now c.requires.limits a g.D.Disk g.J.Planned.strict c.args.self.now.commands c.args.self.now.gone c.args.self.now.slot event act c.args.gone hold c.reserve.new.seat desk may c.in-Ok-step.given c.step.new.slot c.in-Ok-step.ensures.ok)

pub put-requires-clause-fits : goal.put-requires-clause-fits
put-requires-clause-fits g c =
    let a = c.args.self.now.actor in
    let w = c.in_ok-weight.weight in
    let event = event_of c.args.ask in
    let act = act_of_ask c.args.ask in
    let turns = subst (λ p. Turns actor_of_item weight_of (fits_plan p) c.args.self.now.seat c.reserve.new.seat) (sym c.requires.plan) c.reserve.ensures.turn in
    let hold : Hold = record { items = 1; weight = w } in
    let held = held_first c.args.self.now.seat c.reserve.new.seat hold c.requires.desk.seated.held_is c.in-Ok.ensures.ok.0 c.in-Ok.ensures.ok.1 in
    let desk = desk_on c.args.plan.now c.args.tape.now c.requires.limits a g.D.Disk g.J.Planned.strict c.args.self.now.commands c.args.self.now.gone c.args.self.now.slot no_hold hold c.args.self.now.seat c.reserve.new.seat c.requires.desk turns c.reserve.ensures.same.0 held in
    let may = may_on c.args.plan.now c.args.tape.now c.requires.limits a g.D.Disk g.J.Planned.strict c.args.self.now.commands c.args.self.now.gone c.args.self.now.slot event act c.args.gone no_hold c.args.self.now.seat c.reserve.new.seat c.requires.desk turns c.reserve.ensures.same.0 c.requires.may in
    let item_is = c.item_for-item.ensures ∙ ap (λ e. item_of a e c.in-Ok-step.given) c.event.ensures in
    subst (λ p. FitsBehind actor_of_item (fits_plan p) c.reserve.new.seat c.item_for-item.result) c.requires.plan
    (subst (λ item. FitsBehind actor_of_item (fits_plan c.args.plan.now) c.reserve.new.seat item) (sym item_is) (fits c.args.plan.now c.args.tape.now c.requires.limits a g.D.Disk g.J.Planned.strict c.args.self.now.commands c.args.self.now.gone c.args.self.now.slot event act c.args.gone hold c.reserve.new.seat desk may c.in-Ok-step.given c.step.new.slot c.in-Ok-step.ensures.ok))

pub returns-clause-ok : goal.returns-clause-ok
returns-clause-ok g c =
    let a = c.args.self.now.actor in
    let w = c.in_ok-weight.weight in
    let event = event_of c.args.ask in
    let act = act_of_ask c.args.ask in
    let turns = subst (λ p. Turns actor_of_item weight_of (fits_plan p) c.args.self.now.seat c.reserve.new.seat) (sym c.requires.plan) c.reserve.ensures.turn in
    let hold : Hold = record { items = 1; weight = w } in
    let held = held_first c.args.self.now.seat c.reserve.new.seat hold c.requires.desk.seated.held_is c.in-Ok.ensures.ok.0 c.in-Ok.ensures.ok.1 in
    let desk = desk_on c.args.plan.now c.args.tape.now c.requires.limits a g.D.Disk g.J.Planned.strict c.args.self.now.commands c.args.self.now.gone c.args.self.now.slot no_hold hold c.args.self.now.seat c.reserve.new.seat c.requires.desk turns c.reserve.ensures.same.0 held in
    let may = may_on c.args.plan.now c.args.tape.now c.requires.limits a g.D.Disk g.J.Planned.strict c.args.self.now.commands c.args.self.now.gone c.args.self.now.slot event act c.args.gone no_hold c.args.self.now.seat c.reserve.new.seat c.requires.desk turns c.reserve.ensures.same.0 c.requires.may in
    let item_is = c.item_for-item.ensures ∙ ap (λ e. item_of a e c.in-Ok-step.given) c.event.ensures in
    let turns' = subst (λ p. Turns actor_of_item weight_of (fits_plan p) c.reserve.new.seat c.put.new.seat) (sym c.requires.plan) c.put.ensures.turn in
    let last = subst (λ p. ComesLast actor_of_item (fits_plan p) c.reserve.new.seat c.put.new.seat.seen c.item_for-item.result) (sym c.requires.plan) c.put.ensures.behind in
    let free = held_none c.reserve.new.seat c.put.new.seat hold held c.put.ensures.held.0 c.put.ensures.held.1 in
    taken c.args.plan.now c.args.tape.now c.requires.limits a g.D.Disk g.J.Planned.strict c.args.self.now.commands c.args.self.now.gone c.args.self.now.slot event act c.args.gone hold c.reserve.new.seat desk may c.in-Ok-step.given c.step.new.slot c.in-Ok-step.ensures.ok c.in-Ok-step.ensures.strict c.put.new.seat turns' free (subst (λ item. ComesLast actor_of_item (fits_plan c.args.plan.now) c.reserve.new.seat c.put.new.seat.seen item) item_is last)

pub returns-in-Err-Full-clause-came : goal.returns-in-Err-Full-clause-came
returns-in-Err-Full-clause-came g c =
    let a = c.args.self.now.actor in
    let event = event_of c.args.ask in
    let act = act_of_ask c.args.ask in
    let new = c.reserve.new.seat in
    let turns = subst (λ p. Turns actor_of_item weight_of (fits_plan p) c.args.self.now.seat new) (sym c.requires.plan) c.reserve.ensures.turn in
    let desk = desk_on c.args.plan.now c.args.tape.now c.requires.limits a g.D.Disk g.J.Planned.strict c.args.self.now.commands c.args.self.now.gone c.args.self.now.slot no_hold no_hold c.args.self.now.seat new c.requires.desk turns c.reserve.ensures.same.0 (held_same c.args.self.now.seat c.reserve.new.seat no_hold c.requires.desk.seated.held_is c.in-Err-Full.ensures.err.0 c.in-Err-Full.ensures.err.1) in
    let may = may_on c.args.plan.now c.args.tape.now c.requires.limits a g.D.Disk g.J.Planned.strict c.args.self.now.commands c.args.self.now.gone c.args.self.now.slot event act c.args.gone no_hold c.args.self.now.seat new c.requires.desk turns c.reserve.ensures.same.0 c.requires.may in
    let refuses = subst (λ e. Refuses c.args.tape.now.limits (length new.seen + new.out_count) (sum_by weight_of new.seen + new.out_weight) 1 c.in_ok-weight.weight e) c.in-Err-Full.field-0-is c.in-Err-Full.ensures.cause in (
      c.reserve.ensures.same.0,
      refl,
      asked_no_room g.D.Disk g.J.Planned.strict c.args.plan.now c.args.tape.now c.requires.limits a c.args.self.now.commands c.args.self.now.gone c.args.self.now.slot event act c.args.gone no_hold new desk may
          c.in_ok-weight.weight c.in_ok-weight.ensures c.in-Err-Full.field-0-0 c.in-Err-Full.field-0-1 refuses,
    )

pub returns-clause-took : goal.returns-clause-took
returns-clause-took g c = λ _.
    let self = c.args.self.now in
    let event = event_of c.args.ask in
    let item_is = c.item_for-item.ensures ∙ ap (λ e. item_of self.actor e c.in-Ok-step.given) c.event.ensures in
    (refl, entered_one self.actor event c.in-Ok-step.given c.item_for-item.result self.seat c.reserve.new.seat c.put.new.seat item_is c.reserve.ensures.turn.seen c.put.ensures.turn.seen c.reserve.ensures.same.0 c.put.ensures.mine)

pub returns-in-Err-OutOfMemory-clause-err : goal.returns-in-Err-OutOfMemory-clause-err
returns-in-Err-OutOfMemory-clause-err g c =
    let self = c.args.self.now in
    let new = c.reserve.new.seat in
    let turns = subst (λ p. Turns actor_of_item weight_of (fits_plan p) self.seat new) (sym c.requires.plan) c.reserve.ensures.turn in
    still_sound g.D.Disk g.J.Planned.strict c.args.plan.now c.args.tape.now (record self { seat = new })
    (desk_on c.args.plan.now c.args.tape.now c.requires.limits self.actor g.D.Disk g.J.Planned.strict self.commands self.gone self.slot no_hold no_hold self.seat new c.requires.desk turns c.reserve.ensures.same.0
    (held_same self.seat new no_hold c.requires.desk.seated.held_is c.in-Err-OutOfMemory.ensures.err.0 c.in-Err-OutOfMemory.ensures.err.1))

pub returns-in_default-clause-err : goal.returns-in_default-clause-err
returns-in_default-clause-err g c =
    let self = c.args.self.now in
    let w = c.in_ok-weight.weight in
    let hold : Hold = record { items = 1; weight = w } in
    let new = c.reserve.new.seat in
    let free = c.release.new.seat in
    let turns = subst (λ p. Turns actor_of_item weight_of (fits_plan p) self.seat new) (sym c.requires.plan) c.reserve.ensures.turn in
    let later = subst (λ p. Turns actor_of_item weight_of (fits_plan p) new free) (sym c.requires.plan) c.release.ensures.turn in
    let held = held_first self.seat new hold c.requires.desk.seated.held_is c.in-Ok.ensures.ok.0 c.in-Ok.ensures.ok.1 in
    let freed = held_none new free hold held c.release.ensures.held.0 c.release.ensures.held.1 in
    let desk = desk_on c.args.plan.now c.args.tape.now c.requires.limits self.actor g.D.Disk g.J.Planned.strict self.commands self.gone self.slot no_hold hold self.seat new c.requires.desk turns c.reserve.ensures.same.0 held in
    let seated = seated_on c.args.plan.now c.args.tape.now c.requires.limits self.actor no_hold hold self.seat new c.requires.desk.seated turns held in
    record {
      seated = seated_on c.args.plan.now c.args.tape.now c.requires.limits self.actor hold no_hold new free seated later freed;
      sound = λ up.
          desk_stays g.D.Disk (run_with g.J.Planned.strict c.args.plan.now c.args.tape.now) self.actor free self.slot c.step.new.slot self.commands self.gone
          (c.in_default.ensures.refused (sym c.is_down-self.ensures.value ∙ up))
          (desk_on c.args.plan.now c.args.tape.now c.requires.limits self.actor g.D.Disk g.J.Planned.strict self.commands self.gone self.slot hold no_hold new free desk later c.release.ensures.same.0 freed);
    }

pub returns-in_default-clause-marked : goal.returns-in_default-clause-marked
returns-in_default-clause-marked g c = λ down. inr (sym c.is_down-self.ensures.value ∙ down)

pub returns-in_err-weight-clause-err : goal.returns-in_err-weight-clause-err
returns-in_err-weight-clause-err g c = on_err c.from_residual.result (still_sound g.D.Disk g.J.Planned.strict c.args.plan.now c.args.tape.now c.args.self.now c.requires.desk)

pub returns-in_err-weight-clause-told : goal.returns-in_err-weight-clause-told
returns-in_err-weight-clause-told g c = no_answer _ c.from_residual.result Idle c.from_residual.ensures.1

pub returns-in_err-weight-clause-marked : goal.returns-in_err-weight-clause-marked
returns-in_err-weight-clause-marked g c = keeps c.args.self.now c.args.self.now c.from_residual.result refl

pub returns-in-Err-OutOfMemory-clause-marked : goal.returns-in-Err-OutOfMemory-clause-marked
returns-in-Err-OutOfMemory-clause-marked g c = kept_down c.args.self.now (record c.args.self.now { seat = c.reserve.new.seat }) refl
