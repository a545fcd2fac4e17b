use Rattle.std.proofs.Common.{[], ◌∙◌}
use Rattle.acc_tape.proofs.Visits.{releases, released, may_leave, visits, less_kept, visit_giving_up}
use Rattle.acc_tape.proofs.tape.Tape.release.Goals as goal

pub leave-requires-clause-turn : goal.leave-requires-clause-turn
leave-requires-clause-turn g c =
    let p = g.E.Posted in
    let m = c.seat.inside.token.me in
    let x = c.slot_mut.result.now in
    may_leave p.actor_of p.bytes g.R.Rules.fits m c.seat.invariant c.begin.new.token.me c.begin.ensures.turn x c.slot_mut.ensures.value c.release.new.self (releases p.actor_of p.bytes g.R.Rules.fits m _ _ x c.release.new.self c.args.items c.args.weight c.seat.invariant c.seat.view_is c.requires.held.0 c.requires.held.1 c.release.ensures.released)

pub returns-clause-turn : goal.returns-clause-turn
returns-clause-turn g c =
    let p = g.E.Posted in
    let m = c.seat.inside.token.me in
    let x = c.slot_mut.result.now in
    let after = (visits p.actor_of p.bytes g.R.Rules.fits m _ _ c.seat.invariant c.seat.view_is c.begin.new.token.me c.begin.ensures.turn x c.slot_mut.ensures.value c.release.new.self (releases p.actor_of p.bytes g.R.Rules.fits m _ _ x c.release.new.self c.args.items c.args.weight c.seat.invariant c.seat.view_is c.requires.held.0 c.requires.held.1 c.release.ensures.released) c.release.ensures.within _ (c.leave.ensures.tape ∙ c.begin.ensures.tape) c.leave.new.token.me c.leave.ensures.left).1 in
    after.turns

pub returns-clause-held : goal.returns-clause-held
returns-clause-held g c =
    let p = g.E.Posted in
    let m = c.seat.inside.token.me in
    let x = c.slot_mut.result.now in
    let after = (visits p.actor_of p.bytes g.R.Rules.fits m _ _ c.seat.invariant c.seat.view_is c.begin.new.token.me c.begin.ensures.turn x c.slot_mut.ensures.value c.release.new.self (releases p.actor_of p.bytes g.R.Rules.fits m _ _ x c.release.new.self c.args.items c.args.weight c.seat.invariant c.seat.view_is c.requires.held.0 c.requires.held.1 c.release.ensures.released) c.release.ensures.within _ (c.leave.ensures.tape ∙ c.begin.ensures.tape) c.leave.new.token.me c.leave.ensures.left).1 in
    less_kept p.actor_of p.bytes g.R.Rules.fits _ _ x c.release.new.self c.args.items c.args.weight [] after c.requires.held.0 c.requires.held.1 (c.release.ensures.released ∙ released p.actor_of p.bytes g.R.Rules.fits x c.args.items c.args.weight)

pub returns-clause-visit : goal.returns-clause-visit
returns-clause-visit g c =
    let p = g.E.Posted in
    let m = c.seat.inside.token.me in
    let x = c.slot_mut.result.now in
    let after = (visits p.actor_of p.bytes g.R.Rules.fits m _ _ c.seat.invariant c.seat.view_is c.begin.new.token.me c.begin.ensures.turn x c.slot_mut.ensures.value c.release.new.self (releases p.actor_of p.bytes g.R.Rules.fits m _ _ x c.release.new.self c.args.items c.args.weight c.seat.invariant c.seat.view_is c.requires.held.0 c.requires.held.1 c.release.ensures.released) c.release.ensures.within _ (c.leave.ensures.tape ∙ c.begin.ensures.tape) c.leave.new.token.me c.leave.ensures.left).1 in
    visit_giving_up p.actor_of p.bytes g.R.Rules.fits _ _ x c.release.new.self c.args.items c.args.weight [] after c.requires.held.0 c.requires.held.1 (c.release.ensures.released ∙ released p.actor_of p.bytes g.R.Rules.fits x c.args.items c.args.weight)
