-- What the rounds come to is served.
use Rattle.std.proofs.Common.{◌∙◌, true, false, List, map, refl, sym, ap, subst}
use Rattle.std.proofs.lemmas.Bool.{true≢false}
use Rattle.acc_stamp.specs.declared.actors.Actor.{Actor}
use Rattle.acc_actors.specs.declared.slot.Slot.{Slot}
use Rattle.acc_cluster.specs.Over.{behind_items, IsOver, AreSlotsOf, AreStrictSlots}
use Rattle.acc_free_ending.specs.declared.rest.Queue.{Queue}
use Rattle.acc_free_ending.specs.Queues.{actor_in, rest_actor, AreAllActors, HaveGone}
use Rattle.acc_free_ending.specs.Moves.{Serves}
use Rattle.acc_free_ending.proofs.Steps.{on_ok, both_on_ok, on_limit}
use Rattle.acc_free_ending.proofs.Ended.{actors_of_queues, slots_of, rests_gone, has_finished, nobody_down, ends_there, has_stopped}
use Rattle.acc_free_ending.proofs.ending.finish.Goals as goal

pub over-requires-clause-standing : goal.over-requires-clause-standing
over-requires-clause-standing g c =
    let resting = c.requires.standing in (
      resting.0,
      subst (λ (slots : List (Actor × Slot g.row.D.Denot)). IsOver g.D.Disk c.args.plan.now slots c.args.entered.items resting.0) (sym c.in_ok-slots.ensures.slots) resting.1.over,
    )

pub over-requires-clause-actors : goal.over-requires-clause-actors
over-requires-clause-actors g c =
    subst (λ (slots : List (Actor × Slot g.row.D.Denot)). AreSlotsOf c.args.plan.now slots) (sym c.in_ok-slots.ensures.slots) (slots_of c.args.plan.now c.args.rests.items c.requires.actors)

pub rounds-gone-requires-clause-actors : goal.rounds-gone-requires-clause-actors
rounds-gone-requires-clause-actors g c =
    subst (AreAllActors c.args.plan.now) (sym (ap (λ (queues : List Queue). map actor_in queues) c.in_ok-slots.ensures.queues ∙ actors_of_queues c.args.rests.items)) c.requires.actors

pub rounds-gone-requires-clause-standing : goal.rounds-gone-requires-clause-standing
rounds-gone-requires-clause-standing g c =
    let stopped = c.requires.standing.0 in
    let resting = c.requires.standing.1 in
    let over = subst (λ (slots : List (Actor × Slot g.row.D.Denot)). IsOver g.D.Disk c.args.plan.now slots c.args.entered.items stopped) (sym c.in_ok-slots.ensures.slots) resting.over in
    let s = behind_items c.args.entered.items stopped in (
      s,
      record { stands = c.in_ok-cluster.ensures.ok stopped over; serving = resting.serving; stayed = λ on. absurd (true≢false (sym on)) },
      subst (HaveGone c.args.plan.now s) (sym c.in_ok-slots.ensures.queues) (rests_gone c.args.plan.now s c.args.rests.items resting.gone),
    )

pub returns-clause-ok : goal.returns-clause-ok
returns-clause-ok g c =
    let plan = c.args.plan.now in
    let d = g.D.Disk in
    let stopped = c.requires.standing.0 in
    let resting = c.requires.standing.1 in
    let over = subst (λ (slots : List (Actor × Slot g.row.D.Denot)). IsOver d plan slots c.args.entered.items stopped) (sym c.in_ok-slots.ensures.slots) resting.over in
    let s = behind_items c.args.entered.items stopped in
    let serves : Serves d false plan c.in_ok-cluster.cluster s =
    record { stands = c.in_ok-cluster.ensures.ok stopped over; serving = resting.serving; stayed = λ on. absurd (true≢false (sym on)) } in
    let gone = subst (HaveGone plan s) (sym c.in_ok-slots.ensures.queues) (rests_gone plan s c.args.rests.items resting.gone) in
    on_ok _ _ c.rounds-gone.result
    (λ told.
    has_finished d false plan c.args.entered.items stopped c.rounds-gone.new.queues.items (map rest_actor c.args.rests.items)
    (told.0 ∙ ap (λ (queues : List Queue). map actor_in queues) c.in_ok-slots.ensures.queues ∙ actors_of_queues c.args.rests.items)
    c.requires.actors c.rounds-gone.new.cluster (told.1 false s serves gone) c.served_at_the_end.ensures c.in_ok-ended.ended c.in_ok-ended.ensures.ok)
    (both_on_ok _ _ c.rounds-gone.result c.rounds-gone.ensures.same c.rounds-gone.ensures.ok)

pub returns-clause-limit : goal.returns-clause-limit
returns-clause-limit g c =
    let plan = c.args.plan.now in
    let d = g.D.Disk in
    let stopped = c.requires.standing.0 in
    let resting = c.requires.standing.1 in
    let over = subst (λ (slots : List (Actor × Slot g.row.D.Denot)). IsOver d plan slots c.args.entered.items stopped) (sym c.in_ok-slots.ensures.slots) resting.over in
    let s = behind_items c.args.entered.items stopped in
    let serves : Serves d false plan c.in_ok-cluster.cluster s =
    record { stands = c.in_ok-cluster.ensures.ok stopped over; serving = resting.serving; stayed = λ on. absurd (true≢false (sym on)) } in
    let gone = subst (HaveGone plan s) (sym c.in_ok-slots.ensures.queues) (rests_gone plan s c.args.rests.items resting.gone) in
    on_limit _ _ c.rounds-gone.result
    (λ which most stops.
    let h = stops false s serves gone in (
      ends_there d false plan c.args.entered.items c.rounds-gone.new.cluster which most h c.in_ok-ended.ended c.in_ok-ended.ensures.limited,
      has_stopped d false plan c.args.entered.items c.rounds-gone.new.cluster which most h c.in_ok-ended.ended c.in_ok-ended.ensures.limited serves.stands.past.within,
    ))
    c.rounds-gone.ensures.limit

pub returns-clause-strict_limit : goal.returns-clause-strict_limit
returns-clause-strict_limit g c = λ stopped disks resting strictly unarmed up.
    let plan = c.args.plan.now in
    let d = g.D.Disk in
    let s = behind_items c.args.entered.items stopped in
    let over = subst (λ (slots : List (Actor × Slot g.row.D.Denot)). IsOver d plan slots c.args.entered.items stopped) (sym c.in_ok-slots.ensures.slots) resting.over in
    let slots = subst (λ (slots : List (Actor × Slot g.row.D.Denot)). AreStrictSlots d plan s disks slots) (sym c.in_ok-slots.ensures.slots) strictly in
    let stands = c.in_ok-cluster.ensures.strict stopped disks over slots in
    let serves : Serves d true plan c.in_ok-cluster.cluster s =
    record {
      stands = stands.stands;
      serving = resting.serving;
      stayed = λ _. record { disks = disks; strictly = stands.strictly; unarmed = unarmed; up = up };
    } in
    let gone = subst (HaveGone plan s) (sym c.in_ok-slots.ensures.queues) (rests_gone plan s c.args.rests.items resting.gone) in
    on_limit _ _ c.rounds-gone.result
    (λ which most stops.
    ends_there d true plan c.args.entered.items c.rounds-gone.new.cluster which most (stops true s serves gone) c.in_ok-ended.ended c.in_ok-ended.ensures.limited)
    c.rounds-gone.ensures.limit

pub returns-clause-strict : goal.returns-clause-strict
returns-clause-strict g c = λ stopped disks resting strictly unarmed up.
    let plan = c.args.plan.now in
    let d = g.D.Disk in
    let s = behind_items c.args.entered.items stopped in
    let over = subst (λ (slots : List (Actor × Slot g.row.D.Denot)). IsOver d plan slots c.args.entered.items stopped) (sym c.in_ok-slots.ensures.slots) resting.over in
    let slots = subst (λ (slots : List (Actor × Slot g.row.D.Denot)). AreStrictSlots d plan s disks slots) (sym c.in_ok-slots.ensures.slots) strictly in
    let stands = c.in_ok-cluster.ensures.strict stopped disks over slots in
    let serves : Serves d true plan c.in_ok-cluster.cluster s =
    record {
      stands = stands.stands;
      serving = resting.serving;
      stayed = λ _. record { disks = disks; strictly = stands.strictly; unarmed = unarmed; up = up };
    } in
    let gone = subst (HaveGone plan s) (sym c.in_ok-slots.ensures.queues) (rests_gone plan s c.args.rests.items resting.gone) in
    on_ok _ _ c.rounds-gone.result
    (λ told.
    nobody_down d true plan c.args.entered.items stopped c.rounds-gone.new.queues.items (map rest_actor c.args.rests.items)
    (told.0 ∙ ap (λ (queues : List Queue). map actor_in queues) c.in_ok-slots.ensures.queues ∙ actors_of_queues c.args.rests.items)
    c.requires.actors c.rounds-gone.new.cluster (told.1 true s serves gone) c.in_ok-ended.ended c.in_ok-ended.ensures.ok refl)
    (both_on_ok _ _ c.rounds-gone.result c.rounds-gone.ensures.same c.rounds-gone.ensures.ok)
