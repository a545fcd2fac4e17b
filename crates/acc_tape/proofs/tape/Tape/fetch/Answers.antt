use Rattle.std.proofs.Common.{refl, ◌∙◌}
use Rattle.acc_tape.proofs.Visits.{bare, still_may, learns_of, may_leave, visits, visit_plain}
use Rattle.acc_tape.proofs.tape.Tape.fetch.Goals as goal

pub leave-requires-clause-turn : goal.leave-requires-clause-turn
leave-requires-clause-turn g c =
    let p = g.E.Posted in
    let m = c.seat.inside.token.me in
    let x = c.slot_mut.result.now in
    let learns = learns_of p.actor_of p.bytes g.R.Rules.fits m c.begin.new.token.me c.begin.ensures.turn x c.slot_mut.ensures.value in
    may_leave p.actor_of p.bytes g.R.Rules.fits m c.seat.invariant c.begin.new.token.me c.begin.ensures.turn x c.slot_mut.ensures.value x (still_may p.actor_of p.bytes g.R.Rules.fits m.0 x x (bare p.actor_of p.bytes g.R.Rules.fits m c.seat.invariant) refl)

pub returns-clause-turn : goal.returns-clause-turn
returns-clause-turn g c =
    let p = g.E.Posted in
    let m = c.seat.inside.token.me in
    let x = c.slot_mut.result.now in
    let after = (visits p.actor_of p.bytes g.R.Rules.fits m _ _ c.seat.invariant c.seat.view_is c.begin.new.token.me c.begin.ensures.turn x c.slot_mut.ensures.value x (still_may p.actor_of p.bytes g.R.Rules.fits m.0 x x (bare p.actor_of p.bytes g.R.Rules.fits m c.seat.invariant) refl) c.fetch-fetched.ensures.within _ (c.leave.ensures.tape ∙ c.begin.ensures.tape) c.leave.new.token.me c.leave.ensures.left).1 in
    after.turns

pub returns-clause-visit : goal.returns-clause-visit
returns-clause-visit g c =
    let p = g.E.Posted in
    let m = c.seat.inside.token.me in
    let x = c.slot_mut.result.now in
    let after = (visits p.actor_of p.bytes g.R.Rules.fits m _ _ c.seat.invariant c.seat.view_is c.begin.new.token.me c.begin.ensures.turn x c.slot_mut.ensures.value x (still_may p.actor_of p.bytes g.R.Rules.fits m.0 x x (bare p.actor_of p.bytes g.R.Rules.fits m c.seat.invariant) refl) c.fetch-fetched.ensures.within _ (c.leave.ensures.tape ∙ c.begin.ensures.tape) c.leave.new.token.me c.leave.ensures.left).1 in
    visit_plain p.actor_of p.bytes g.R.Rules.fits _ _ x x after refl refl
