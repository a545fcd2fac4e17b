-- One round more with all deliveries, or the last one.
use Rattle.std.proofs.Common.{◌∙◌, false, map, refl, sym, subst}
use Rattle.acc_free_ending.specs.Queues.{actor_in, AreAllActors}
use Rattle.acc_free_ending.specs.Moves.{progress, HasGoneRound}
use Rattle.acc_free_ending.proofs.Steps.{limit_handed, ends_later}
use Rattle.acc_free_ending.proofs.Rounds.{each_went, come_first, come_on, come_to_end}
use Rattle.acc_free_ending.proofs.round.rounds.Goals as goal

pub drain-requires-clause-standing : goal.drain-requires-clause-standing
drain-requires-clause-standing g c = (c.requires.standing.0, c.requires.standing.1)

pub rounds-init : goal.rounds-init
rounds-init g c = record {
  same = refl;
  come = λ strict_run s serves gone.
      come_first g.D.Disk strict_run c.args.plan.now s c.args.queues.now.items c.drain.new.cluster gone (c.in_ok-drain.ensures.ok strict_run s serves);
}

pub round-requires-clause-actors : goal.round-requires-clause-actors
round-requires-clause-actors g c = subst (AreAllActors c.args.plan.now) (sym c.rounds.invariant.same) c.requires.actors

pub round-requires-clause-standing : goal.round-requires-clause-standing
round-requires-clause-standing g c =
    let come = c.rounds.invariant.come false c.requires.standing.0 c.requires.standing.1 c.requires.standing.2 in
    (come.reached, come.serves, come.gone)

pub drain-requires-in-rounds-clause-standing : goal.drain-requires-in-rounds-clause-standing
drain-requires-in-rounds-clause-standing g c =
    let come = c.rounds.invariant.come false c.requires.standing.0 c.requires.standing.1 c.requires.standing.2 in
    let turned = c.in_ok-round.ensures.ok false come.reached come.serves come.gone in
    (turned.next, turned.serves)

pub rounds-smaller : goal.rounds-smaller
rounds-smaller g c =
    let come = c.rounds.invariant.come false c.requires.standing.0 c.requires.standing.1 c.requires.standing.2 in
    (c.in_ok-round.ensures.ok false come.reached come.serves come.gone).fewer c.if-branch.true

pub rounds-preserved : goal.rounds-preserved
rounds-preserved g c = record {
  same = c.in_ok-round.ensures.same ∙ c.rounds.invariant.same;
  come = λ strict_run s serves gone.
      let come = c.rounds.invariant.come strict_run s serves gone in
      let turned = subst (λ went. HasGoneRound g.D.Disk strict_run c.args.plan.now (progress c.rounds.queues.items c.round.new.queues.items went) c.round.new.cluster come.reached)
      c.if-branch.true (c.in_ok-round.ensures.ok strict_run come.reached come.serves come.gone) in
      come_on g.D.Disk strict_run c.args.plan.now s c.rounds.queues.items c.round.new.queues.items c.rounds.cluster c.round.new.cluster c.drain-in-rounds.new.cluster
      come turned (c.in_ok-drain-2.ensures.ok strict_run turned.next turned.serves);
}

pub returns-clause-same : goal.returns-clause-same
returns-clause-same g c = c.in_ok-round.ensures.same ∙ c.rounds.invariant.same

pub returns-clause-ok : goal.returns-clause-ok
returns-clause-ok g c = λ strict_run s serves gone.
    let come = c.rounds.invariant.come strict_run s serves gone in
    come_to_end g.D.Disk strict_run c.args.plan.now s c.rounds.queues.items c.round.new.queues.items c.rounds.cluster c.round.new.cluster come
    (subst (λ went. HasGoneRound g.D.Disk strict_run c.args.plan.now (progress c.rounds.queues.items c.round.new.queues.items went) c.round.new.cluster come.reached)
    c.if-branch.false (c.in_ok-round.ensures.ok strict_run come.reached come.serves come.gone))

pub returns-in_err-drain-clause-limit : goal.returns-in_err-drain-clause-limit
returns-in_err-drain-clause-limit g c =
    limit_handed _ _ c.from_residual.result c.in_err-drain.field-0.0 c.from_residual.ensures.1
    (λ which most ends strict_run s serves gone.
    ends strict_run s serves (each_went c.args.plan.now c.args.queues.now.items (map actor_in c.args.queues.now.items) refl c.requires.actors s gone))
    c.in_err-drain.ensures.limit

pub returns-in_err-round-clause-limit : goal.returns-in_err-round-clause-limit
returns-in_err-round-clause-limit g c =
    limit_handed _ _ c.from_residual-in_err-round.result c.in_err-round.field-0.0 c.from_residual-in_err-round.ensures.1
    (λ which most ends strict_run s serves gone.
    let come = c.rounds.invariant.come strict_run s serves gone in
    ends_later g.D.Disk strict_run c.args.plan.now s.own come.reached.own c.round.new.cluster which most come.behind (ends strict_run come.reached come.serves come.gone))
    c.in_err-round.ensures.limit

pub returns-in_err-drain-2-clause-limit : goal.returns-in_err-drain-2-clause-limit
returns-in_err-drain-2-clause-limit g c =
    limit_handed _ _ c.from_residual-in_err-drain-2.result c.in_err-drain-2.field-0.0 c.from_residual-in_err-drain-2.ensures.1
    (λ which most ends strict_run s serves gone.
    let come = c.rounds.invariant.come strict_run s serves gone in
    let turned = c.in_ok-round.ensures.ok strict_run come.reached come.serves come.gone in
    let names = map actor_in c.args.queues.now.items in
    ends_later g.D.Disk strict_run c.args.plan.now s.own come.reached.own c.drain-in-rounds.new.cluster which most come.behind
    (ends_later g.D.Disk strict_run c.args.plan.now come.reached.own turned.next.own c.drain-in-rounds.new.cluster which most turned.behind
    (ends strict_run turned.next turned.serves
    (each_went c.args.plan.now c.round.new.queues.items names (c.in_ok-round.ensures.same ∙ c.rounds.invariant.same) c.requires.actors turned.next turned.gone))))
    c.in_err-drain-2.ensures.limit
