use Rattle.std.proofs.Common.{inl, inr, true, ◌+◌, drop, refl, sym, subst, arith}
use Rattle.acc_message.specs.declared.entry.Event.TheVariants.{Restart as RestartEvent}
use Rattle.acc_message_code.specs.Weight.{weight_of}
use Rattle.acc_free_laws.specs.FreeRun.{alone}
use Rattle.acc_tape.specs.ItemViews.{actor_of_item}
use Rattle.acc_tape.specs.Seats.{Turns, FitsBehind, ComesLast}
use Rattle.acc_desk.specs.declared.hold.Hold.{Hold}
use Rattle.acc_desk.specs.Desks.{newest, no_hold}
use Rattle.acc_desk.specs.Fits.{fits_plan}
use Rattle.acc_desk.proofs.Seating.{desk_on, seated_on, holds_items, holds_weight, held_same, held_first, held_none}
use Rattle.acc_desk.proofs.Restarts.{restart_short, restart_noted, restart_weighs, restart_silent, restart_owned, restart_fits_behind, restart_taken}
use Rattle.acc_desk.proofs.Chosen.{entered_one}
use Rattle.acc_desk.proofs.Next.{none_left}
use Rattle.acc_desk.proofs.Marked.{kept_down, still_sound, marked}
use Rattle.acc_desk.proofs.desk.Desk.restart.Goals as goal

pub returns-in-Err-Full-clause-ok : goal.returns-in-Err-Full-clause-ok
returns-in-Err-Full-clause-ok g c =
    let turns = subst (λ p. Turns actor_of_item weight_of (fits_plan p) c.args.self.now.seat c.reserve.new.seat) (sym c.requires.plan) c.reserve.ensures.turn in
    desk_on c.args.plan.now c.args.tape.now c.requires.limits c.args.self.now.actor g.D.Disk g.J.Planned.strict c.args.self.now.commands c.args.self.now.gone c.args.self.now.slot no_hold no_hold c.args.self.now.seat c.reserve.new.seat c.requires.desk turns c.reserve.ensures.same.0 (held_same c.args.self.now.seat c.reserve.new.seat no_hold c.requires.desk.seated.held_is c.in-Err-Full.ensures.err.0 c.in-Err-Full.ensures.err.1)

pub reopen-requires : goal.reopen-requires
reopen-requires g c = (alone (newest c.args.self.now.seat) c.requires.desk.at.stopped, c.requires.desk.at.stands, c.requires.desk.known)

pub release-requires-clause-held : goal.release-requires-clause-held
release-requires-clause-held g c =
    let hold : Hold = record { items = 1; weight = 0 } in
    let held = held_first c.args.self.now.seat c.reserve.new.seat hold c.requires.desk.seated.held_is c.in-Ok.ensures.ok.0 c.in-Ok.ensures.ok.1 in
    (holds_items c.reserve.new.seat hold held, holds_weight c.reserve.new.seat hold held)

pub put-requires-clause-held : goal.put-requires-clause-held
put-requires-clause-held g c =
    let hold : Hold = record { items = 1; weight = 0 } in
    let held = held_first c.args.self.now.seat c.reserve.new.seat hold c.requires.desk.seated.held_is c.in-Ok.ensures.ok.0 c.in-Ok.ensures.ok.1 in
    (omega arith, holds_items c.reserve.new.seat hold held, holds_weight c.reserve.new.seat hold held)

pub put-requires-clause-item : goal.put-requires-clause-item
put-requires-clause-item g c =
    let a = c.args.self.now.actor in
    let turns = subst (λ p. Turns actor_of_item weight_of (fits_plan p) c.args.self.now.seat c.reserve.new.seat) (sym c.requires.plan) c.reserve.ensures.turn in
    let hold : Hold = record { items = 1; weight = 0 } in
    let held = held_first c.args.self.now.seat c.reserve.new.seat hold c.requires.desk.seated.held_is c.in-Ok.ensures.ok.0 c.in-Ok.ensures.ok.1 in
    let desk = desk_on c.args.plan.now c.args.tape.now c.requires.limits a g.D.Disk g.J.Planned.strict c.args.self.now.commands c.args.self.now.gone c.args.self.now.slot no_hold hold c.args.self.now.seat c.reserve.new.seat c.requires.desk turns c.reserve.ensures.same.0 held in
    let item_is = c.item_for-item.ensures in
    let silent = restart_silent g.D.Disk g.J.Planned.strict c.args.plan.now c.args.tape.now c.requires.limits a c.args.self.now.commands c.args.self.now.gone c.args.self.now.slot c.reopen.new.slot hold c.reserve.new.seat c.requires.next.0 desk c.requires.next.1 c.requires.next.2 c.in-Ok-reopen.given c.in-Ok-reopen.ensures.ok in
    rw item_is (
      restart_owned g.D.Disk g.J.Planned.strict c.args.plan.now c.args.tape.now c.requires.limits a c.args.self.now.commands c.args.self.now.gone c.args.self.now.slot c.reopen.new.slot hold c.reserve.new.seat c.requires.next.0 desk c.requires.next.1 c.requires.next.2 c.in-Ok-reopen.given c.in-Ok-reopen.ensures.ok,
      restart_short a c.in-Ok-reopen.given silent,
      restart_weighs a c.in-Ok-reopen.given silent,
    )

pub put-requires-clause-notes : goal.put-requires-clause-notes
put-requires-clause-notes g c =
    let a = c.args.self.now.actor in
    let turns = subst (λ p. Turns actor_of_item weight_of (fits_plan p) c.args.self.now.seat c.reserve.new.seat) (sym c.requires.plan) c.reserve.ensures.turn in
    let hold : Hold = record { items = 1; weight = 0 } in
    let held = held_first c.args.self.now.seat c.reserve.new.seat hold c.requires.desk.seated.held_is c.in-Ok.ensures.ok.0 c.in-Ok.ensures.ok.1 in
    let desk = desk_on c.args.plan.now c.args.tape.now c.requires.limits a g.D.Disk g.J.Planned.strict c.args.self.now.commands c.args.self.now.gone c.args.self.now.slot no_hold hold c.args.self.now.seat c.reserve.new.seat c.requires.desk turns c.reserve.ensures.same.0 held in
    let item_is = c.item_for-item.ensures in
    let silent = restart_silent g.D.Disk g.J.Planned.strict c.args.plan.now c.args.tape.now c.requires.limits a c.args.self.now.commands c.args.self.now.gone c.args.self.now.slot c.reopen.new.slot hold c.reserve.new.seat c.requires.next.0 desk c.requires.next.1 c.requires.next.2 c.in-Ok-reopen.given c.in-Ok-reopen.ensures.ok in
    rw item_is (restart_noted a c.in-Ok-reopen.given silent)

pub put-requires-clause-fits : goal.put-requires-clause-fits
put-requires-clause-fits g c =
    let a = c.args.self.now.actor in
    let turns = subst (λ p. Turns actor_of_item weight_of (fits_plan p) c.args.self.now.seat c.reserve.new.seat) (sym c.requires.plan) c.reserve.ensures.turn in
    let hold : Hold = record { items = 1; weight = 0 } in
    let held = held_first c.args.self.now.seat c.reserve.new.seat hold c.requires.desk.seated.held_is c.in-Ok.ensures.ok.0 c.in-Ok.ensures.ok.1 in
    let desk = desk_on c.args.plan.now c.args.tape.now c.requires.limits a g.D.Disk g.J.Planned.strict c.args.self.now.commands c.args.self.now.gone c.args.self.now.slot no_hold hold c.args.self.now.seat c.reserve.new.seat c.requires.desk turns c.reserve.ensures.same.0 held in
    let item_is = c.item_for-item.ensures in
    let silent = restart_silent g.D.Disk g.J.Planned.strict c.args.plan.now c.args.tape.now c.requires.limits a c.args.self.now.commands c.args.self.now.gone c.args.self.now.slot c.reopen.new.slot hold c.reserve.new.seat c.requires.next.0 desk c.requires.next.1 c.requires.next.2 c.in-Ok-reopen.given c.in-Ok-reopen.ensures.ok in
    subst (λ p. FitsBehind actor_of_item (fits_plan p) c.reserve.new.seat c.item_for-item.result) c.requires.plan
    (subst (λ item. FitsBehind actor_of_item (fits_plan c.args.plan.now) c.reserve.new.seat item) (sym item_is) (restart_fits_behind g.D.Disk g.J.Planned.strict c.args.plan.now c.args.tape.now c.requires.limits a c.args.self.now.commands c.args.self.now.gone c.args.self.now.slot c.reopen.new.slot hold c.reserve.new.seat c.requires.next.0 desk c.requires.next.1 c.requires.next.2 c.in-Ok-reopen.given silent))

pub returns-clause-ok : goal.returns-clause-ok
returns-clause-ok g c =
    let a = c.args.self.now.actor in
    let turns = subst (λ p. Turns actor_of_item weight_of (fits_plan p) c.args.self.now.seat c.reserve.new.seat) (sym c.requires.plan) c.reserve.ensures.turn in
    let hold : Hold = record { items = 1; weight = 0 } in
    let held = held_first c.args.self.now.seat c.reserve.new.seat hold c.requires.desk.seated.held_is c.in-Ok.ensures.ok.0 c.in-Ok.ensures.ok.1 in
    let desk = desk_on c.args.plan.now c.args.tape.now c.requires.limits a g.D.Disk g.J.Planned.strict c.args.self.now.commands c.args.self.now.gone c.args.self.now.slot no_hold hold c.args.self.now.seat c.reserve.new.seat c.requires.desk turns c.reserve.ensures.same.0 held in
    let item_is = c.item_for-item.ensures in
    let turns' = subst (λ p. Turns actor_of_item weight_of (fits_plan p) c.reserve.new.seat c.put.new.seat) (sym c.requires.plan) c.put.ensures.turn in
    let last = subst (λ p. ComesLast actor_of_item (fits_plan p) c.reserve.new.seat c.put.new.seat.seen c.item_for-item.result) (sym c.requires.plan) c.put.ensures.behind in
    let free = held_none c.reserve.new.seat c.put.new.seat hold held c.put.ensures.held.0 c.put.ensures.held.1 in
    restart_taken g.D.Disk g.J.Planned.strict c.args.plan.now c.args.tape.now c.requires.limits a c.args.self.now.commands c.args.self.now.gone c.args.self.now.slot c.reopen.new.slot hold c.reserve.new.seat c.requires.next.0 desk c.requires.next.1 c.requires.next.2 c.in-Ok-reopen.given c.in-Ok-reopen.ensures.ok c.in-Ok-reopen.ensures.strict c.put.new.seat turns' free (subst (λ item. ComesLast actor_of_item (fits_plan c.args.plan.now) c.reserve.new.seat c.put.new.seat.seen item) item_is last)

pub returns-clause-took : goal.returns-clause-took
returns-clause-took g c = λ _.
    let self = c.args.self.now in
    (refl, entered_one self.actor (RestartEvent 0) c.in-Ok-reopen.given c.item_for-item.result self.seat c.reserve.new.seat c.put.new.seat c.item_for-item.ensures c.reserve.ensures.turn.seen c.put.ensures.turn.seen c.reserve.ensures.same.0 c.put.ensures.mine)

pub returns-in-Err-OutOfMemory-clause-err : goal.returns-in-Err-OutOfMemory-clause-err
returns-in-Err-OutOfMemory-clause-err g c =
    let self = c.args.self.now in
    let new = c.reserve.new.seat in
    let turns = subst (λ p. Turns actor_of_item weight_of (fits_plan p) self.seat new) (sym c.requires.plan) c.reserve.ensures.turn in
    still_sound g.D.Disk g.J.Planned.strict c.args.plan.now c.args.tape.now (record self { seat = new })
    (desk_on c.args.plan.now c.args.tape.now c.requires.limits self.actor g.D.Disk g.J.Planned.strict self.commands self.gone self.slot no_hold no_hold self.seat new c.requires.desk turns c.reserve.ensures.same.0
    (held_same self.seat new no_hold c.requires.desk.seated.held_is c.in-Err-OutOfMemory.ensures.err.0 c.in-Err-OutOfMemory.ensures.err.1))

pub returns-in_default-clause-err : goal.returns-in_default-clause-err
returns-in_default-clause-err g c =
    let self = c.args.self.now in
    let hold : Hold = record { items = 1; weight = 0 } in
    let new = c.reserve.new.seat in
    let free = c.release.new.seat in
    let turns = subst (λ p. Turns actor_of_item weight_of (fits_plan p) self.seat new) (sym c.requires.plan) c.reserve.ensures.turn in
    let later = subst (λ p. Turns actor_of_item weight_of (fits_plan p) new free) (sym c.requires.plan) c.release.ensures.turn in
    let held = held_first self.seat new hold c.requires.desk.seated.held_is c.in-Ok.ensures.ok.0 c.in-Ok.ensures.ok.1 in
    let seated = seated_on c.args.plan.now c.args.tape.now c.requires.limits self.actor no_hold hold self.seat new c.requires.desk.seated turns held in
    marked g.D.Disk g.J.Planned.strict c.args.plan.now c.args.tape.now (record self { seat = free; slot = c.reopen.new.slot; unsound = true })
    (seated_on c.args.plan.now c.args.tape.now c.requires.limits self.actor hold no_hold new free seated later (held_none new free hold held c.release.ensures.held.0 c.release.ensures.held.1)) refl

pub returns-then-self-len-clause-told : goal.returns-then-self-len-clause-told
returns-then-self-len-clause-told g c = λ is.
    let self = c.args.self.now in
    none_left self.commands self.gone c.requires.next.0 (drop (self.gone + 1) self.commands) (omega (arith, c.if-self-len.true, c.len.ensures)) c.requires.next.1

pub returns-in_default-clause-marked : goal.returns-in_default-clause-marked
returns-in_default-clause-marked g c = inr c.requires.next

pub returns-in-Err-OutOfMemory-clause-marked : goal.returns-in-Err-OutOfMemory-clause-marked
returns-in-Err-OutOfMemory-clause-marked g c = inl (kept_down c.args.self.now (record c.args.self.now { seat = c.reserve.new.seat }) refl)
