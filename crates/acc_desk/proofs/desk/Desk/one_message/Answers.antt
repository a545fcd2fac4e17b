use Rattle.std.proofs.Common.{List, refl, sym, ◌∙◌, ap, subst, drop}
use Rattle.std.specs.List.{slice_get}
use Rattle.std.specs.Option.{option_copied}
use Rattle.acc_message.specs.declared.message.Message.{Message}
use Rattle.acc_message_code.specs.Weight.{weight_of}
use Rattle.acc_message_index.specs.declared.posting.Post.{Post}
use Rattle.acc_tape.specs.ItemViews.{actor_of_item}
use Rattle.acc_tape.specs.Seats.{Turns}
use Rattle.acc_desk.specs.Desks.{no_hold}
use Rattle.acc_desk.specs.Fits.{fits_plan}
use Rattle.acc_desk.proofs.Seating.{held_same, desk_on}
use Rattle.acc_desk.proofs.Asking.{found_may}
use Rattle.acc_desk.proofs.Chosen.{takes_first}
use Rattle.acc_desk.proofs.Marked.{on_err, keeps, still_sound}
use Rattle.acc_desk.proofs.desk.Desk.one_message.Goals as goal

pub take-requires-clause-desk : goal.take-requires-clause-desk
take-requires-clause-desk g c =
    let self = c.args.self.now in
    let turns = subst (λ p. Turns actor_of_item weight_of (fits_plan p) self.seat c.collect.new.seat) (sym c.requires.plan) c.collect.ensures.turn in
    desk_on c.args.plan.now c.args.tape.now c.requires.limits self.actor g.D.Disk g.J.Planned.strict self.commands self.gone self.slot no_hold no_hold self.seat c.collect.new.seat c.requires.desk turns c.collect.ensures.same.0 (held_same self.seat c.collect.new.seat no_hold c.requires.desk.seated.held_is c.collect.ensures.same.1 c.collect.ensures.same.2)

pub returns-in_default-clause-ok : goal.returns-in_default-clause-ok
returns-in_default-clause-ok g c =
    let self = c.args.self.now in
    let turns = subst (λ p. Turns actor_of_item weight_of (fits_plan p) self.seat c.collect.new.seat) (sym c.requires.plan) c.collect.ensures.turn in
    desk_on c.args.plan.now c.args.tape.now c.requires.limits self.actor g.D.Disk g.J.Planned.strict self.commands self.gone self.slot no_hold no_hold self.seat c.collect.new.seat c.requires.desk turns c.collect.ensures.same.0 (held_same self.seat c.collect.new.seat no_hold c.requires.desk.seated.held_is c.collect.ensures.same.1 c.collect.ensures.same.2)

pub returns-then-is_down-clause-ok : goal.returns-then-is_down-clause-ok
returns-then-is_down-clause-ok g c =
    let self = c.args.self.now in
    let turns = subst (λ p. Turns actor_of_item weight_of (fits_plan p) self.seat c.collect.new.seat) (sym c.requires.plan) c.collect.ensures.turn in
    desk_on c.args.plan.now c.args.tape.now c.requires.limits self.actor g.D.Disk g.J.Planned.strict self.commands self.gone self.slot no_hold no_hold self.seat c.collect.new.seat c.requires.desk turns c.collect.ensures.same.0 (held_same self.seat c.collect.new.seat no_hold c.requires.desk.seated.held_is c.collect.ensures.same.1 c.collect.ensures.same.2)

pub take-requires-clause-may : goal.take-requires-clause-may
take-requires-clause-may g c =
    let self = c.args.self.now in
    let turns = subst (λ p. Turns actor_of_item weight_of (fits_plan p) self.seat c.collect.new.seat) (sym c.requires.plan) c.collect.ensures.turn in
    let desk = desk_on c.args.plan.now c.args.tape.now c.requires.limits self.actor g.D.Disk g.J.Planned.strict self.commands self.gone self.slot no_hold no_hold self.seat c.collect.new.seat c.requires.desk turns c.collect.ensures.same.0 (held_same self.seat c.collect.new.seat no_hold c.requires.desk.seated.held_is c.collect.ensures.same.1 c.collect.ensures.same.2) in
    let up = sym (c.is_down.ensures c.args.plan.now c.args.tape.now desk) ∙ c.if-is_down.false in
    found_may c.args.plan.now self.actor c.collect.new.seat.seen c.collect.new.found.items c.in-Some.field-0.now c.collect.ensures.oldest c.collect.ensures.sent (ap (λ (l : List (Post × Message)). slice_get l 0) (sym c.deref.ensures.value) ∙ sym c.first.ensures.value ∙ ap option_copied c.in-Some.is) up (drop self.gone self.commands)

pub returns-clause-took : goal.returns-clause-took
returns-clause-took g c = λ is.
    let self = c.args.self.now in
    let took = c.take.ensures.took is in (
      took.0,
      takes_first self.actor self.seat c.collect.new.seat c.take.new.self.seat c.collect.new.found.items c.in-Some.field-0.now c.collect.ensures.turn.seen c.collect.ensures.same.0 c.collect.ensures.oldest
          (ap (λ (l : List (Post × Message)). slice_get l 0) (sym c.deref.ensures.value) ∙ sym c.first.ensures.value ∙ ap option_copied c.in-Some.is) took.1,
    )

pub returns-in_err-collect-clause-err : goal.returns-in_err-collect-clause-err
returns-in_err-collect-clause-err g c =
    let self = c.args.self.now in
    let new = c.collect.new.seat in
    let turns = subst (λ p. Turns actor_of_item weight_of (fits_plan p) self.seat new) (sym c.requires.plan) c.collect.ensures.turn in
    on_err c.from_residual-in_err-collect.result (still_sound g.D.Disk g.J.Planned.strict c.args.plan.now c.args.tape.now (record self { seat = new })
    (desk_on c.args.plan.now c.args.tape.now c.requires.limits self.actor g.D.Disk g.J.Planned.strict self.commands self.gone self.slot no_hold no_hold self.seat new c.requires.desk turns c.collect.ensures.same.0 (held_same self.seat new no_hold c.requires.desk.seated.held_is c.collect.ensures.same.1 c.collect.ensures.same.2)))

pub returns-in_err-found-clause-err : goal.returns-in_err-found-clause-err
returns-in_err-found-clause-err g c = on_err c.from_residual.result (still_sound g.D.Disk g.J.Planned.strict c.args.plan.now c.args.tape.now c.args.self.now c.requires.desk)

pub returns-in_err-collect-clause-marked : goal.returns-in_err-collect-clause-marked
returns-in_err-collect-clause-marked g c = keeps c.args.self.now (record c.args.self.now { seat = c.collect.new.seat }) c.from_residual-in_err-collect.result refl

pub returns-in_err-found-clause-marked : goal.returns-in_err-found-clause-marked
returns-in_err-found-clause-marked g c = keeps c.args.self.now c.args.self.now c.from_residual.result refl
