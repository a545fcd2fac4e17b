use Rattle.std.proofs.Common.{◌≢◌, ap, ◌∙◌, sym}
use Rattle.acc_tape.proofs.Visits.{bare, may_leave, visits, reserves, on_ok, on_err, more_kept, same_kept, visit_reserving, visit_plain}
use Rattle.acc_tape.proofs.tape.Tape.reserve.Goals as goal

pub leave-requires-clause-turn : goal.leave-requires-clause-turn
leave-requires-clause-turn g c =
    let p = g.E.Posted in
    let m = c.seat.inside.token.me in
    let x = c.slot_mut.result.now in
    let b = c.reserve-outcome.ensures in
    let nz : m.0.actor ≢ 0 = (λ z. c.requires.actor (ap (λ s. s.actor) (sym c.seat.view_is) ∙ z)) in
    may_leave p.actor_of p.bytes g.R.Rules.fits m c.seat.invariant c.begin.new.token.me c.begin.ensures.turn x c.slot_mut.ensures.value c.reserve-outcome.new.self (reserves p.actor_of p.bytes g.R.Rules.fits m.0 x c.reserve-outcome.new.self c.args.items c.args.weight c.reserve-outcome.result (bare p.actor_of p.bytes g.R.Rules.fits m c.seat.invariant) nz b.ok b.err)

pub invariant_of-seat : goal.invariant_of-seat
invariant_of-seat g c =
    let p = g.E.Posted in
    let m = c.seat.inside.token.me in
    let x = c.slot_mut.result.now in
    let b = c.reserve-outcome.ensures in
    let nz : m.0.actor ≢ 0 = (λ z. c.requires.actor (ap (λ s. s.actor) (sym c.seat.view_is) ∙ z)) in
    (visits p.actor_of p.bytes g.R.Rules.fits m _ _ c.seat.invariant c.seat.view_is c.begin.new.token.me c.begin.ensures.turn x c.slot_mut.ensures.value c.reserve-outcome.new.self (reserves p.actor_of p.bytes g.R.Rules.fits m.0 x c.reserve-outcome.new.self c.args.items c.args.weight c.reserve-outcome.result (bare p.actor_of p.bytes g.R.Rules.fits m c.seat.invariant) nz b.ok b.err) b.within _ (c.leave.ensures.tape ∙ c.begin.ensures.tape) c.leave.new.token.me c.leave.ensures.left).0

pub returns-clause-turn : goal.returns-clause-turn
returns-clause-turn g c =
    let p = g.E.Posted in
    let m = c.seat.inside.token.me in
    let x = c.slot_mut.result.now in
    let b = c.reserve-outcome.ensures in
    let nz : m.0.actor ≢ 0 = (λ z. c.requires.actor (ap (λ s. s.actor) (sym c.seat.view_is) ∙ z)) in
    let after = (visits p.actor_of p.bytes g.R.Rules.fits m _ _ c.seat.invariant c.seat.view_is c.begin.new.token.me c.begin.ensures.turn x c.slot_mut.ensures.value c.reserve-outcome.new.self (reserves p.actor_of p.bytes g.R.Rules.fits m.0 x c.reserve-outcome.new.self c.args.items c.args.weight c.reserve-outcome.result (bare p.actor_of p.bytes g.R.Rules.fits m c.seat.invariant) nz b.ok b.err) b.within _ (c.leave.ensures.tape ∙ c.begin.ensures.tape) c.leave.new.token.me c.leave.ensures.left).1 in
    after.turns

pub returns-clause-ok : goal.returns-clause-ok
returns-clause-ok g c =
    let p = g.E.Posted in
    let m = c.seat.inside.token.me in
    let x = c.slot_mut.result.now in
    let b = c.reserve-outcome.ensures in
    let nz : m.0.actor ≢ 0 = (λ z. c.requires.actor (ap (λ s. s.actor) (sym c.seat.view_is) ∙ z)) in
    let after = (visits p.actor_of p.bytes g.R.Rules.fits m _ _ c.seat.invariant c.seat.view_is c.begin.new.token.me c.begin.ensures.turn x c.slot_mut.ensures.value c.reserve-outcome.new.self (reserves p.actor_of p.bytes g.R.Rules.fits m.0 x c.reserve-outcome.new.self c.args.items c.args.weight c.reserve-outcome.result (bare p.actor_of p.bytes g.R.Rules.fits m c.seat.invariant) nz b.ok b.err) b.within _ (c.leave.ensures.tape ∙ c.begin.ensures.tape) c.leave.new.token.me c.leave.ensures.left).1 in
    on_ok c.reserve-outcome.result (more_kept p.actor_of p.bytes g.R.Rules.fits _ _ x c.reserve-outcome.new.self c.args.items c.args.weight after) b.ok

pub returns-clause-err : goal.returns-clause-err
returns-clause-err g c =
    let p = g.E.Posted in
    let m = c.seat.inside.token.me in
    let x = c.slot_mut.result.now in
    let b = c.reserve-outcome.ensures in
    let nz : m.0.actor ≢ 0 = (λ z. c.requires.actor (ap (λ s. s.actor) (sym c.seat.view_is) ∙ z)) in
    let after = (visits p.actor_of p.bytes g.R.Rules.fits m _ _ c.seat.invariant c.seat.view_is c.begin.new.token.me c.begin.ensures.turn x c.slot_mut.ensures.value c.reserve-outcome.new.self (reserves p.actor_of p.bytes g.R.Rules.fits m.0 x c.reserve-outcome.new.self c.args.items c.args.weight c.reserve-outcome.result (bare p.actor_of p.bytes g.R.Rules.fits m c.seat.invariant) nz b.ok b.err) b.within _ (c.leave.ensures.tape ∙ c.begin.ensures.tape) c.leave.new.token.me c.leave.ensures.left).1 in
    on_err c.reserve-outcome.result (λ is. same_kept p.actor_of p.bytes g.R.Rules.fits _ _ x c.reserve-outcome.new.self after (ap (λ k. k.reserved) is) (ap (λ k. k.reserved_weight) is)) b.err

pub returns-clause-visit : goal.returns-clause-visit
returns-clause-visit g c =
    let p = g.E.Posted in
    let m = c.seat.inside.token.me in
    let x = c.slot_mut.result.now in
    let b = c.reserve-outcome.ensures in
    let nz : m.0.actor ≢ 0 = (λ z. c.requires.actor (ap (λ s. s.actor) (sym c.seat.view_is) ∙ z)) in
    let after = (visits p.actor_of p.bytes g.R.Rules.fits m _ _ c.seat.invariant c.seat.view_is c.begin.new.token.me c.begin.ensures.turn x c.slot_mut.ensures.value c.reserve-outcome.new.self (reserves p.actor_of p.bytes g.R.Rules.fits m.0 x c.reserve-outcome.new.self c.args.items c.args.weight c.reserve-outcome.result (bare p.actor_of p.bytes g.R.Rules.fits m c.seat.invariant) nz b.ok b.err) b.within _ (c.leave.ensures.tape ∙ c.begin.ensures.tape) c.leave.new.token.me c.leave.ensures.left).1 in (
      on_ok c.reserve-outcome.result (visit_reserving p.actor_of p.bytes g.R.Rules.fits _ _ x c.reserve-outcome.new.self c.args.items c.args.weight after) b.ok,
      on_err c.reserve-outcome.result (λ is. visit_plain p.actor_of p.bytes g.R.Rules.fits _ _ x c.reserve-outcome.new.self after (ap (λ k. k.reserved) is) (ap (λ k. k.reserved_weight) is)) b.err,
    )
