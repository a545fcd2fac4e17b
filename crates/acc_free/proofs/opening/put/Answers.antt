-- One desk more.
use Rattle.std.proofs.Common.{sym, ◌∙◌, ap}
use Rattle.acc_message.specs.declared.item.Item.{Item}
use Rattle.acc_tape.specs.Seats.{SeatView}
use Rattle.acc_free.proofs.Openings.{not_made, one_opened}
use Rattle.acc_free.proofs.opening.put.Goals as goal

pub split-requires-clause-tape : goal.split-requires-clause-tape
split-requires-clause-tape g c = c.requires.opened.tape_is

pub split-requires-clause-first : goal.split-requires-clause-first
split-requires-clause-first g c = c.requires.opened.actor_is

pub split-requires-clause-actor : goal.split-requires-clause-actor
split-requires-clause-actor g c = (
  c.requires.some,
  not_made _ c.args.first.now.made c.args.own c.requires.opened.made c.requires.opened.before,
)

pub new-desk-requires-clause-seat : goal.new-desk-requires-clause-seat
new-desk-requires-clause-seat g c =
    let is = c.in_ok-seat.ensures.seat in
    let own = ap (λ (s : SeatView Item). s.actor) is in (
      ap (λ (s : SeatView Item). s.tape) is ∙ (c.split.ensures.turn.tape ∙ c.requires.opened.tape_is),
      own,
      (λ none. c.requires.some (sym own ∙ none)),
      ap (λ (s : SeatView Item). s.mine) is,
      ap (λ (s : SeatView Item). s.held_items) is,
      ap (λ (s : SeatView Item). s.held_weight) is,
    )

pub new-desk-requires-clause-serving : goal.new-desk-requires-clause-serving
new-desk-requires-clause-serving g c = c.free_runs_begin.ensures.serving c.args.plan.now c.requires.is_plan

pub returns : goal.returns
returns g c =
    let d = g.D.Disk in
    let turn = c.split.ensures.turn in
    record {
      ok =
          one_opened d g.J.Planned.strict c.args.plan.now c.args.tape.now c.args.own c.args.first.now c.split.new.first
          c.args.desks.now.items c.push.new.self.items c.new-desk.result c.requires.opened turn.tape turn.actor c.split.ensures.made c.in_ok-push.ensures.items c.new-desk.ensures.same.0
          c.new-desk.ensures.sound;
    }
