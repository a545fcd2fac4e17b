use Rattle.std.proofs.Common.{[], ◌∷◌, ap, ◌∙◌, sym, subst}
use Rattle.acc_tape.specs.Seats.{FitsBehind}
use Rattle.acc_tape.proofs.Visits.{enters, one_own, less_kept, more_mine, last_come, visit_giving_up, learns_of, may_leave, visits}
use Rattle.acc_tape.proofs.tape.Tape.put.Goals as goal

pub put-requires-clause-fits : goal.put-requires-clause-fits
put-requires-clause-fits g c =
    let p = g.E.Posted in
    let m = c.seat.inside.token.me in
    let x = c.slot_mut.result.now in
    let learns = learns_of p.actor_of p.bytes g.R.Rules.fits m c.begin.new.token.me c.begin.ensures.turn x c.slot_mut.ensures.value in
    subst (λ s. FitsBehind p.actor_of g.R.Rules.fits s c.args.item) (sym c.seat.view_is) c.requires.fits x.items learns.seen (sym learns.mine)

pub leave-requires-clause-turn : goal.leave-requires-clause-turn
leave-requires-clause-turn g c =
    let p = g.E.Posted in
    let m = c.seat.inside.token.me in
    let x = c.slot_mut.result.now in
    let own = one_own p.actor_of p.bytes g.R.Rules.fits c.args.items c.args.item _ c.requires.held.0 c.requires.item.0 in
    let may = enters p.actor_of p.bytes g.R.Rules.fits m _ _ x c.put.new.self c.args.items c.args.weight (c.args.item ∷ []) c.seat.invariant c.seat.view_is c.requires.held.1 c.requires.held.2 own c.put.ensures.put in
    may_leave p.actor_of p.bytes g.R.Rules.fits m c.seat.invariant c.begin.new.token.me c.begin.ensures.turn x c.slot_mut.ensures.value c.put.new.self may

pub returns-clause-turn : goal.returns-clause-turn
returns-clause-turn g c =
    let p = g.E.Posted in
    let m = c.seat.inside.token.me in
    let x = c.slot_mut.result.now in
    let own = one_own p.actor_of p.bytes g.R.Rules.fits c.args.items c.args.item _ c.requires.held.0 c.requires.item.0 in
    let may = enters p.actor_of p.bytes g.R.Rules.fits m _ _ x c.put.new.self c.args.items c.args.weight (c.args.item ∷ []) c.seat.invariant c.seat.view_is c.requires.held.1 c.requires.held.2 own c.put.ensures.put in
    let after = (visits p.actor_of p.bytes g.R.Rules.fits m _ _ c.seat.invariant c.seat.view_is c.begin.new.token.me c.begin.ensures.turn x c.slot_mut.ensures.value c.put.new.self may c.put.ensures.within _ (c.leave.ensures.tape ∙ c.begin.ensures.tape) c.leave.new.token.me c.leave.ensures.left).1 in
    after.turns

pub returns-clause-held : goal.returns-clause-held
returns-clause-held g c =
    let p = g.E.Posted in
    let m = c.seat.inside.token.me in
    let x = c.slot_mut.result.now in
    let own = one_own p.actor_of p.bytes g.R.Rules.fits c.args.items c.args.item _ c.requires.held.0 c.requires.item.0 in
    let may = enters p.actor_of p.bytes g.R.Rules.fits m _ _ x c.put.new.self c.args.items c.args.weight (c.args.item ∷ []) c.seat.invariant c.seat.view_is c.requires.held.1 c.requires.held.2 own c.put.ensures.put in
    let after = (visits p.actor_of p.bytes g.R.Rules.fits m _ _ c.seat.invariant c.seat.view_is c.begin.new.token.me c.begin.ensures.turn x c.slot_mut.ensures.value c.put.new.self may c.put.ensures.within _ (c.leave.ensures.tape ∙ c.begin.ensures.tape) c.leave.new.token.me c.leave.ensures.left).1 in
    less_kept p.actor_of p.bytes g.R.Rules.fits _ _ x c.put.new.self c.args.items c.args.weight (c.args.item ∷ []) after c.requires.held.1 c.requires.held.2 c.put.ensures.put

pub returns-clause-mine : goal.returns-clause-mine
returns-clause-mine g c =
    let p = g.E.Posted in
    let m = c.seat.inside.token.me in
    let x = c.slot_mut.result.now in
    let own = one_own p.actor_of p.bytes g.R.Rules.fits c.args.items c.args.item _ c.requires.held.0 c.requires.item.0 in
    let may = enters p.actor_of p.bytes g.R.Rules.fits m _ _ x c.put.new.self c.args.items c.args.weight (c.args.item ∷ []) c.seat.invariant c.seat.view_is c.requires.held.1 c.requires.held.2 own c.put.ensures.put in
    let after = (visits p.actor_of p.bytes g.R.Rules.fits m _ _ c.seat.invariant c.seat.view_is c.begin.new.token.me c.begin.ensures.turn x c.slot_mut.ensures.value c.put.new.self may c.put.ensures.within _ (c.leave.ensures.tape ∙ c.begin.ensures.tape) c.leave.new.token.me c.leave.ensures.left).1 in
    more_mine p.actor_of p.bytes g.R.Rules.fits _ _ x c.put.new.self (c.args.item ∷ []) after (ap (λ k. k.items) c.put.ensures.put) (λ y in'. (own y in').0)

pub returns-clause-behind : goal.returns-clause-behind
returns-clause-behind g c =
    let p = g.E.Posted in
    let m = c.seat.inside.token.me in
    let x = c.slot_mut.result.now in
    let own = one_own p.actor_of p.bytes g.R.Rules.fits c.args.items c.args.item _ c.requires.held.0 c.requires.item.0 in
    let may = enters p.actor_of p.bytes g.R.Rules.fits m _ _ x c.put.new.self c.args.items c.args.weight (c.args.item ∷ []) c.seat.invariant c.seat.view_is c.requires.held.1 c.requires.held.2 own c.put.ensures.put in
    let after = (visits p.actor_of p.bytes g.R.Rules.fits m _ _ c.seat.invariant c.seat.view_is c.begin.new.token.me c.begin.ensures.turn x c.slot_mut.ensures.value c.put.new.self may c.put.ensures.within _ (c.leave.ensures.tape ∙ c.begin.ensures.tape) c.leave.new.token.me c.leave.ensures.left).1 in
    last_come p.actor_of p.bytes g.R.Rules.fits _ _ x c.put.new.self (c.args.item ∷ []) after (ap (λ k. k.items) c.put.ensures.put) c.put.ensures.fits

pub returns-clause-visit : goal.returns-clause-visit
returns-clause-visit g c =
    let p = g.E.Posted in
    let m = c.seat.inside.token.me in
    let x = c.slot_mut.result.now in
    let own = one_own p.actor_of p.bytes g.R.Rules.fits c.args.items c.args.item _ c.requires.held.0 c.requires.item.0 in
    let may = enters p.actor_of p.bytes g.R.Rules.fits m _ _ x c.put.new.self c.args.items c.args.weight (c.args.item ∷ []) c.seat.invariant c.seat.view_is c.requires.held.1 c.requires.held.2 own c.put.ensures.put in
    let after = (visits p.actor_of p.bytes g.R.Rules.fits m _ _ c.seat.invariant c.seat.view_is c.begin.new.token.me c.begin.ensures.turn x c.slot_mut.ensures.value c.put.new.self may c.put.ensures.within _ (c.leave.ensures.tape ∙ c.begin.ensures.tape) c.leave.new.token.me c.leave.ensures.left).1 in
    visit_giving_up p.actor_of p.bytes g.R.Rules.fits _ _ x c.put.new.self c.args.items c.args.weight (c.args.item ∷ []) after c.requires.held.1 c.requires.held.2 c.put.ensures.put
