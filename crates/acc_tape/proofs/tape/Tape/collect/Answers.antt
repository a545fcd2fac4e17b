use Rattle.std.proofs.Common.{ap, ◌∙◌}
use Rattle.acc_tape.proofs.Visits.{bare, still_may, may_leave, visits, visit_plain}
use Rattle.acc_tape.proofs.tape.Tape.collect.Goals as goal

pub leave-requires-clause-turn : goal.leave-requires-clause-turn
leave-requires-clause-turn g c =
    let p = g.E.Posted in
    let m = c.seat.inside.token.me in
    let x = c.slot_mut.result.now in
    may_leave p.actor_of p.bytes g.R.Rules.fits m c.seat.invariant c.begin.new.token.me c.begin.ensures.turn x c.slot_mut.ensures.value c.collect-outcome.new.self (still_may p.actor_of p.bytes g.R.Rules.fits m.0 x c.collect-outcome.new.self (bare p.actor_of p.bytes g.R.Rules.fits m c.seat.invariant) c.collect-outcome.ensures.same)

pub returns-clause-oldest : goal.returns-clause-oldest
returns-clause-oldest g c =
    let p = g.E.Posted in
    let m = c.seat.inside.token.me in
    let x = c.slot_mut.result.now in
    let after = (visits p.actor_of p.bytes g.R.Rules.fits m _ _ c.seat.invariant c.seat.view_is c.begin.new.token.me c.begin.ensures.turn x c.slot_mut.ensures.value c.collect-outcome.new.self (still_may p.actor_of p.bytes g.R.Rules.fits m.0 x c.collect-outcome.new.self (bare p.actor_of p.bytes g.R.Rules.fits m c.seat.invariant) c.collect-outcome.ensures.same) c.collect-outcome.ensures.within _ (c.leave.ensures.tape ∙ c.begin.ensures.tape) c.leave.new.token.me c.leave.ensures.left).1 in
    rw (after.seen ∙ ap (λ k. k.items) c.collect-outcome.ensures.same) c.collect-outcome.ensures.oldest

pub returns-clause-sent : goal.returns-clause-sent
returns-clause-sent g c =
    let p = g.E.Posted in
    let m = c.seat.inside.token.me in
    let x = c.slot_mut.result.now in
    let after = (visits p.actor_of p.bytes g.R.Rules.fits m _ _ c.seat.invariant c.seat.view_is c.begin.new.token.me c.begin.ensures.turn x c.slot_mut.ensures.value c.collect-outcome.new.self (still_may p.actor_of p.bytes g.R.Rules.fits m.0 x c.collect-outcome.new.self (bare p.actor_of p.bytes g.R.Rules.fits m c.seat.invariant) c.collect-outcome.ensures.same) c.collect-outcome.ensures.within _ (c.leave.ensures.tape ∙ c.begin.ensures.tape) c.leave.new.token.me c.leave.ensures.left).1 in
    rw (after.seen ∙ ap (λ k. k.items) c.collect-outcome.ensures.same) c.collect-outcome.ensures.sent

pub returns-clause-all : goal.returns-clause-all
returns-clause-all g c =
    let p = g.E.Posted in
    let m = c.seat.inside.token.me in
    let x = c.slot_mut.result.now in
    let after = (visits p.actor_of p.bytes g.R.Rules.fits m _ _ c.seat.invariant c.seat.view_is c.begin.new.token.me c.begin.ensures.turn x c.slot_mut.ensures.value c.collect-outcome.new.self (still_may p.actor_of p.bytes g.R.Rules.fits m.0 x c.collect-outcome.new.self (bare p.actor_of p.bytes g.R.Rules.fits m c.seat.invariant) c.collect-outcome.ensures.same) c.collect-outcome.ensures.within _ (c.leave.ensures.tape ∙ c.begin.ensures.tape) c.leave.new.token.me c.leave.ensures.left).1 in
    rw (after.seen ∙ ap (λ k. k.items) c.collect-outcome.ensures.same) c.collect-outcome.ensures.all

pub returns-clause-turn : goal.returns-clause-turn
returns-clause-turn g c =
    let p = g.E.Posted in
    let m = c.seat.inside.token.me in
    let x = c.slot_mut.result.now in
    let after = (visits p.actor_of p.bytes g.R.Rules.fits m _ _ c.seat.invariant c.seat.view_is c.begin.new.token.me c.begin.ensures.turn x c.slot_mut.ensures.value c.collect-outcome.new.self (still_may p.actor_of p.bytes g.R.Rules.fits m.0 x c.collect-outcome.new.self (bare p.actor_of p.bytes g.R.Rules.fits m c.seat.invariant) c.collect-outcome.ensures.same) c.collect-outcome.ensures.within _ (c.leave.ensures.tape ∙ c.begin.ensures.tape) c.leave.new.token.me c.leave.ensures.left).1 in
    after.turns

pub returns-clause-visit : goal.returns-clause-visit
returns-clause-visit g c =
    let p = g.E.Posted in
    let m = c.seat.inside.token.me in
    let x = c.slot_mut.result.now in
    let after = (visits p.actor_of p.bytes g.R.Rules.fits m _ _ c.seat.invariant c.seat.view_is c.begin.new.token.me c.begin.ensures.turn x c.slot_mut.ensures.value c.collect-outcome.new.self (still_may p.actor_of p.bytes g.R.Rules.fits m.0 x c.collect-outcome.new.self (bare p.actor_of p.bytes g.R.Rules.fits m c.seat.invariant) c.collect-outcome.ensures.same) c.collect-outcome.ensures.within _ (c.leave.ensures.tape ∙ c.begin.ensures.tape) c.leave.new.token.me c.leave.ensures.left).1 in
    visit_plain p.actor_of p.bytes g.R.Rules.fits _ _ x c.collect-outcome.new.self after (ap (λ k. k.reserved) c.collect-outcome.ensures.same) (ap (λ k. k.reserved_weight) c.collect-outcome.ensures.same)
