use Rattle.std.proofs.Common.{refl, sym, ◌∙◌, subst}
use Rattle.acc_message_code.specs.Weight.{weight_of}
use Rattle.acc_schedule_runs.specs.Schedules.{cluster_of}
use Rattle.acc_tape.specs.ItemViews.{actor_of_item}
use Rattle.acc_tape.specs.Seats.{Turns}
use Rattle.acc_desk.specs.Desks.{no_hold}
use Rattle.acc_desk.specs.Fits.{fits_plan}
use Rattle.acc_desk.proofs.Seating.{held_same, desk_on}
use Rattle.acc_desk.proofs.Begun.{id_at}
use Rattle.acc_desk.proofs.Chosen.{front_itself, front_on}
use Rattle.acc_desk.proofs.desk.Desk.look.Goals as goal

pub returns-in-Err-NoPlace-clause-ok : goal.returns-in-Err-NoPlace-clause-ok
returns-in-Err-NoPlace-clause-ok g c =
    let self = c.loop-place.self in
    let turns = subst (λ p. Turns actor_of_item weight_of (fits_plan p) self.seat c.fetch.new.seat) (sym c.requires.plan) c.fetch.ensures.turn in
    desk_on c.args.plan.now c.args.tape.now c.requires.limits self.actor g.D.Disk g.J.Planned.strict self.commands self.gone self.slot no_hold no_hold self.seat c.fetch.new.seat c.loop-place.invariant.desk turns c.fetch.ensures.same.0 (held_same self.seat c.fetch.new.seat no_hold c.loop-place.invariant.desk.seated.held_is c.fetch.ensures.same.1 c.fetch.ensures.same.2)

pub returns-in-Some-clause-ok : goal.returns-in-Some-clause-ok
returns-in-Some-clause-ok g c =
    let self = c.loop-place.self in
    let turns = subst (λ p. Turns actor_of_item weight_of (fits_plan p) self.seat c.fetch.new.seat) (sym c.requires.plan) c.fetch.ensures.turn in
    desk_on c.args.plan.now c.args.tape.now c.requires.limits self.actor g.D.Disk g.J.Planned.strict self.commands self.gone self.slot no_hold no_hold self.seat c.fetch.new.seat c.loop-place.invariant.desk turns c.fetch.ensures.same.0 (held_same self.seat c.fetch.new.seat no_hold c.loop-place.invariant.desk.seated.held_is c.fetch.ensures.same.1 c.fetch.ensures.same.2)

pub returns-in-Some-clause-found : goal.returns-in-Some-clause-found
returns-in-Some-clause-found g c =
    let turns = subst (λ p. Turns actor_of_item weight_of (fits_plan p) c.loop-place.self.seat c.fetch.new.seat) (sym c.requires.plan) c.fetch.ensures.turn in
    let found = c.in-Ok.ensures.ok in
    id_at (cluster_of c.args.plan.now) c.fetch.new.seat.seen c.loop-place.place found.0 c.args.txn c.in-Some.id turns.fitting.run.stands found.1 (c.in-Some.ensures.begins found.0 (sym found.2))

pub loop-place-preserved : goal.loop-place-preserved
loop-place-preserved g c =
    let self = c.loop-place.self in
    let turns = subst (λ p. Turns actor_of_item weight_of (fits_plan p) self.seat c.fetch.new.seat) (sym c.requires.plan) c.fetch.ensures.turn in
    record {
      same = c.loop-place.invariant.same;
      mark = c.loop-place.invariant.mark;
      mine = c.fetch.ensures.same.0 ∙ c.loop-place.invariant.mine;
      seen = front_on c.args.self.now.seat.seen self.seat.seen c.fetch.new.seat.seen c.loop-place.invariant.seen c.fetch.ensures.turn.seen;
      desk = desk_on c.args.plan.now c.args.tape.now c.requires.limits self.actor g.D.Disk g.J.Planned.strict self.commands self.gone self.slot no_hold no_hold self.seat c.fetch.new.seat c.loop-place.invariant.desk turns c.fetch.ensures.same.0 (held_same self.seat c.fetch.new.seat no_hold c.loop-place.invariant.desk.seated.held_is c.fetch.ensures.same.1 c.fetch.ensures.same.2);
    }

pub loop-place-init : goal.loop-place-init
loop-place-init g c = record {
  same = (refl, refl, refl);
  mark = refl;
  mine = refl;
  seen = front_itself c.args.self.now.seat.seen;
  desk = c.requires.desk;
}

pub returns-in-Err-NoPlace-clause-seen : goal.returns-in-Err-NoPlace-clause-seen
returns-in-Err-NoPlace-clause-seen g c = front_on c.args.self.now.seat.seen c.loop-place.self.seat.seen c.fetch.new.seat.seen c.loop-place.invariant.seen c.fetch.ensures.turn.seen

pub returns-in-Some-clause-seen : goal.returns-in-Some-clause-seen
returns-in-Some-clause-seen g c = front_on c.args.self.now.seat.seen c.loop-place.self.seat.seen c.fetch.new.seat.seen c.loop-place.invariant.seen c.fetch.ensures.turn.seen
