-- The seats are those of the desks, and all actors stand for what the tape held.
use Rattle.std.proofs.Common.{◌≡◌, List, length, map, refl, sym, ◌∙◌, ap, subst}
use Rattle.std.proofs.lemmas.List.{length-map}
use Rattle.std.specs.Prelude.{All, Any}
use Rattle.acc_message.specs.declared.item.Item.{Item}
use Rattle.acc_schedule.specs.Content.{Content}
use Rattle.acc_tape.specs.ItemViews.{actor_of_item}
use Rattle.acc_tape.specs.Seats.{SeatView}
use Rattle.acc_desk.specs.Fits.{fits_plan}
use Rattle.acc_free_ending.specs.declared.rest.Rest.{Rest}
use Rattle.acc_free.specs.Parts.{seat_in}
use Rattle.acc_free_ending.specs.Queues.{rest_actor, AreAllActors}
use Rattle.acc_free.proofs.Parting.{HasComeTo, seats_ready, actors_of_rests, closes}
use Rattle.acc_free.proofs.closing.closed.Goals as goal

pub close-requires-clause-others : goal.close-requires-clause-others
close-requires-clause-others g c =
    let d = g.D.Disk in
    seats_ready d g.J.Planned.strict c.args.plan.now c.args.tape c.args.desks.items c.in_ok-seats.seats c.in_ok-seats.ensures.seats c.requires.sound

pub close-requires-clause-all : goal.close-requires-clause-all
close-requires-clause-all g c = ap length c.in_ok-seats.ensures.seats ∙ length-map c.args.desks.items seat_in ∙ sym c.requires.all

pub returns-clause-actors : goal.returns-clause-actors
returns-clause-actors g c =
    subst (AreAllActors c.args.plan.now) (sym (ap (λ (l : List (Rest g.row.D.Denot)). map rest_actor l) c.in_ok-seats.ensures.rests ∙ actors_of_rests c.args.desks.items)) c.requires.actors

pub returns-clause-rested : goal.returns-clause-rested
returns-clause-rested g c =
    let d = g.D.Disk in
    closes d g.J.Planned.strict c.args.plan.now c.args.tape c.requires.is_plan
    c.turns_go_by.ensures.together c.turns_go_by.ensures.each c.nobody_goes_down.ensures c.closed_items_are_within.ensures c.desks_stand_at_the_end.ensures
    c.requires.limits.0 c.requires.limits.1 c.args.desks.items c.requires.actors c.requires.sound
    _ c.in_ok-seats.seats _ _ c.in_ok-seats.rests.items c.in_ok-seats.ensures.seats c.in_ok-seats.ensures.rests refl
    (record { come = c.in-Ok.ensures.seats; owned = c.in-Ok.ensures.owned; fits = subst (λ (plan : Content). fits_plan plan c.in-Ok.entered.items) (sym c.requires.plan) c.in-Ok.ensures.fits })

pub returns-clause-entered : goal.returns-clause-entered
returns-clause-entered g c =
    let items = c.in-Ok.entered.items in
    let are = c.in_ok-seats.ensures.seats in
    c.threads_make_one_run.ensures g.J.Planned.strict c.args.plan.now c.args.tape c.args.first.made c.args.desks.items items c.requires.sound
    (subst (λ (seats : List (SeatView Item)). All (HasComeTo c.args.first.made items) seats) are c.in-Ok.ensures.seats)
    (subst (λ (seats : List (SeatView Item)). All (λ (item : Item). Any (λ (seat : SeatView Item). seat.actor ≡ actor_of_item item) seats) items) are c.in-Ok.ensures.owned)
    (subst (λ (plan : Content). fits_plan plan items) (sym c.requires.plan) c.in-Ok.ensures.fits)
