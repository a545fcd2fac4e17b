use Rattle.std.proofs.Common.{◌≡◌, ◌≤◌, [], length, map, take, drop, refl, sym, ◌∙◌, ap, subst, arith}
use Rattle.std.proofs.lemmas.List.{length-map}
use Rattle.acc_message_code.specs.Weight.{weight_of}
use Rattle.acc_tape.specs.ItemViews.{actor_of_item}
use Rattle.acc_tape.specs.Seats.{Turns}
use Rattle.acc_desk.specs.Desks.{newest, no_hold}
use Rattle.acc_desk.specs.Fits.{fits_plan}
use Rattle.acc_desk.specs.Groups.{events_of, joining_of, CanAllJoin}
use Rattle.acc_desk.specs.Outcomes.{HasNoRoom}
use Rattle.acc_desk.proofs.Seating.{held_same, desk_on}
use Rattle.acc_desk.proofs.Puts.{up_moves}
use Rattle.acc_desk.proofs.Joining.{begins_gathering}
use Rattle.acc_desk.proofs.Finding.{found_may_join}
use Rattle.acc_desk.specs.Choices.{HasEntered}
use Rattle.acc_desk.proofs.Chosen.{entered_since, takes_found}
use Rattle.acc_desk.proofs.Marked.{on_err, kept_down, down_since, keeps, refuses, still_sound}
use Rattle.acc_desk.proofs.desk.Desk.group.Goals as goal

pub returns-then-is_empty-clause-ok : goal.returns-then-is_empty-clause-ok
returns-then-is_empty-clause-ok g c =
    let self = c.args.self.now in
    let new = c.collect.new.seat in
    let same = c.collect.ensures.same in
    let turns = subst (λ p. Turns actor_of_item weight_of (fits_plan p) self.seat new) (sym c.requires.plan) c.collect.ensures.turn in
    desk_on c.args.plan.now c.args.tape.now c.requires.limits self.actor g.D.Disk g.J.Planned.strict self.commands self.gone self.slot no_hold no_hold self.seat new c.requires.desk turns same.0 (held_same self.seat new no_hold c.requires.desk.seated.held_is same.1 same.2)

pub gather-staged-requires-clause-desk : goal.gather-staged-requires-clause-desk
gather-staged-requires-clause-desk g c =
    let self = c.args.self.now in
    let new = c.collect.new.seat in
    let same = c.collect.ensures.same in
    let turns = subst (λ p. Turns actor_of_item weight_of (fits_plan p) self.seat new) (sym c.requires.plan) c.collect.ensures.turn in
    desk_on c.args.plan.now c.args.tape.now c.requires.limits self.actor g.D.Disk g.J.Planned.strict self.commands self.gone self.slot no_hold no_hold self.seat new c.requires.desk turns same.0 (held_same self.seat new no_hold c.requires.desk.seated.held_is same.1 same.2)

pub gather-staged-requires-clause-up : goal.gather-staged-requires-clause-up
gather-staged-requires-clause-up g c =
    let self = c.args.self.now in
    let new = c.collect.new.seat in
    let same = c.collect.ensures.same in
    let turns = subst (λ p. Turns actor_of_item weight_of (fits_plan p) self.seat new) (sym c.requires.plan) c.collect.ensures.turn in
    up_moves g.D.Disk g.J.Planned.strict c.args.plan.now c.args.tape.now c.requires.limits self.actor self.commands self.gone self.slot self.slot [] 0 no_hold no_hold self.seat new
    (begins_gathering g.D.Disk g.J.Planned.strict c.args.plan.now c.args.tape.now c.requires.limits self.actor self.commands self.gone self.slot self.seat c.requires.kind c.requires.up c.requires.desk)
    turns same.0 (held_same self.seat new no_hold c.requires.desk.seated.held_is same.1 same.2)

pub gather-staged-requires-clause-found : goal.gather-staged-requires-clause-found
gather-staged-requires-clause-found g c =
    let self = c.args.self.now in
    let new = c.collect.new.seat in
    let list = c.collect.new.found in
    let same = c.collect.ensures.same in
    let left = drop self.gone self.commands in
    let turns = subst (λ p. Turns actor_of_item weight_of (fits_plan p) self.seat new) (sym c.requires.plan) c.collect.ensures.turn in
    let up =
    up_moves g.D.Disk g.J.Planned.strict c.args.plan.now c.args.tape.now c.requires.limits self.actor self.commands self.gone self.slot self.slot [] 0 no_hold no_hold self.seat new
    (begins_gathering g.D.Disk g.J.Planned.strict c.args.plan.now c.args.tape.now c.requires.limits self.actor self.commands self.gone self.slot self.seat c.requires.kind c.requires.up c.requires.desk)
    turns same.0 (held_same self.seat new no_hold c.requires.desk.seated.held_is same.1 same.2) in
    let few : length (map joining_of list.items) ≤ 16 =
    (let n = length-map list.items joining_of in let long = list.ok.0 in let within = list.ok.1 in let room = c.collect.ensures.room in let most = c.in_ok-found.ensures.exact in omega arith) in
    subst (λ found. CanAllJoin c.args.plan.now (newest new) self.actor left (map joining_of found)) (sym c.as_slice.ensures.value)
    (found_may_join c.args.plan.now self.actor new c.requires.kind up left list.items c.collect.ensures.oldest c.collect.ensures.sent few)

pub returns-in-Full-clause-came : goal.returns-in-Full-clause-came
returns-in-Full-clause-came g c =
    let plan = c.args.plan.now in
    let tape = c.args.tape.now in
    let self = c.args.self.now in
    let staged = c.gather-staged.new.self in
    let same = c.gather-staged.ensures.same in
    let full = c.gather-staged.ensures.full c.in-Full.is in
    let still = c.finish.ensures.none full.0 full.1 in
    let seat = c.finish.new.self.seat in
    let room = subst (λ s. HasNoRoom plan tape staged.actor (drop staged.gone staged.commands) s) (sym still) full.2 in
    let room_gone = subst (λ gone. HasNoRoom plan tape staged.actor (drop gone staged.commands) seat) same.2 room in
    let room_left = subst (λ commands. HasNoRoom plan tape staged.actor (drop self.gone commands) seat) same.1 room_gone in (
      ap (λ s. s.mine) still ∙ c.gather-staged.ensures.mine ∙ c.collect.ensures.same.0,
      c.finish.ensures.same.2 ∙ same.2,
      subst (λ a. HasNoRoom plan tape a (drop self.gone self.commands) seat) same.0 room_left,
    )

pub returns-in_err-collect-clause-err : goal.returns-in_err-collect-clause-err
returns-in_err-collect-clause-err g c =
    let self = c.args.self.now in
    let new = c.collect.new.seat in
    let same = c.collect.ensures.same in
    let turns = subst (λ p. Turns actor_of_item weight_of (fits_plan p) self.seat new) (sym c.requires.plan) c.collect.ensures.turn in
    on_err c.from_residual-in_err-collect.result (still_sound g.D.Disk g.J.Planned.strict c.args.plan.now c.args.tape.now (record self { seat = new })
    (desk_on c.args.plan.now c.args.tape.now c.requires.limits self.actor g.D.Disk g.J.Planned.strict self.commands self.gone self.slot no_hold no_hold self.seat new c.requires.desk turns same.0 (held_same self.seat new no_hold c.requires.desk.seated.held_is same.1 same.2)))

pub returns-in_err-items-clause-err : goal.returns-in_err-items-clause-err
returns-in_err-items-clause-err g c =
    let self = c.args.self.now in
    let new = c.collect.new.seat in
    let same = c.collect.ensures.same in
    let turns = subst (λ p. Turns actor_of_item weight_of (fits_plan p) self.seat new) (sym c.requires.plan) c.collect.ensures.turn in
    on_err c.from_residual-in_err-items.result (still_sound g.D.Disk g.J.Planned.strict c.args.plan.now c.args.tape.now (record self { seat = new })
    (desk_on c.args.plan.now c.args.tape.now c.requires.limits self.actor g.D.Disk g.J.Planned.strict self.commands self.gone self.slot no_hold no_hold self.seat new c.requires.desk turns same.0 (held_same self.seat new no_hold c.requires.desk.seated.held_is same.1 same.2)))

pub returns-in-Dry-clause-took : goal.returns-in-Dry-clause-took
returns-in-Dry-clause-took g c = λ is.
    let self = c.args.self.now in
    let staged = c.gather-staged.new.self in
    let list = c.collect.new.found in
    let n = c.gather-staged.result.0 in
    let took = c.in_ok-turned.ensures.took is in
    let q = c.gather-staged.ensures.gathering in
    let found_is = c.as_slice.ensures.value in
    let long = subst (λ found. length (take n (map joining_of found)) ≡ n) found_is q.1 in
    let entered = took.1 self.slot (take n (map joining_of c.as_slice.result.now)) q.0 q.1 q.2 in
    let entered' = subst (λ found. HasEntered staged.actor (events_of (take n (map joining_of found))) staged.seat c.finish.new.self.seat) found_is entered in
    let since = entered_since staged.actor (events_of (take n (map joining_of list.items))) c.collect.new.seat staged.seat c.finish.new.self.seat (c.gather-staged.ensures.seen took.0) c.gather-staged.ensures.mine entered' in (
      c.finish.ensures.same.2 ∙ c.gather-staged.ensures.same.2,
      takes_found self.actor self.seat c.collect.new.seat c.finish.new.self.seat list.items n c.collect.ensures.turn.seen c.collect.ensures.same.0 c.requires.kind c.collect.ensures.oldest long took.0
          (subst (λ a. HasEntered a (events_of (take n (map joining_of list.items))) c.collect.new.seat c.finish.new.self.seat) c.gather-staged.ensures.same.0 since),
    )

pub returns-in_err-found-clause-err : goal.returns-in_err-found-clause-err
returns-in_err-found-clause-err g c = on_err c.from_residual.result (still_sound g.D.Disk g.J.Planned.strict c.args.plan.now c.args.tape.now c.args.self.now c.requires.desk)

pub returns-clause-err : goal.returns-clause-err
returns-clause-err g c = still_sound g.D.Disk g.J.Planned.strict c.args.plan.now c.args.tape.now c.finish.new.self c.in_ok-turned.ensures.ok

pub returns-in_err-found-clause-marked : goal.returns-in_err-found-clause-marked
returns-in_err-found-clause-marked g c = keeps c.args.self.now c.args.self.now c.from_residual.result refl

pub returns-in_err-collect-clause-marked : goal.returns-in_err-collect-clause-marked
returns-in_err-collect-clause-marked g c = keeps c.args.self.now (record c.args.self.now { seat = c.collect.new.seat }) c.from_residual-in_err-collect.result refl

pub returns-in_err-items-clause-marked : goal.returns-in_err-items-clause-marked
returns-in_err-items-clause-marked g c = keeps c.args.self.now (record c.args.self.now { seat = c.collect.new.seat }) c.from_residual-in_err-items.result refl

pub returns-in_err-turned-clause-marked : goal.returns-in_err-turned-clause-marked
returns-in_err-turned-clause-marked g c =
    refuses c.args.self.now c.finish.new.self _ c.from_residual-in_err-turned.result c.from_residual-in_err-turned.ensures.1
    (down_since c.args.self.now c.finish.new.self c.gather-staged.new.self c.gather-staged.ensures.mark c.in_err-turned.ensures.marked)

pub returns-in-Dry-clause-marked : goal.returns-in-Dry-clause-marked
returns-in-Dry-clause-marked g c = c.in_ok-turned.ensures.marked ∙ c.gather-staged.ensures.mark

pub returns-in-Full-clause-marked : goal.returns-in-Full-clause-marked
returns-in-Full-clause-marked g c = c.in_ok-turned.ensures.marked ∙ c.gather-staged.ensures.mark

pub returns-clause-marked : goal.returns-clause-marked
returns-clause-marked g c = kept_down c.args.self.now c.finish.new.self (c.in_ok-turned.ensures.marked ∙ c.gather-staged.ensures.mark)
