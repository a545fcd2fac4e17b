use Rattle.std.proofs.Common.{◌≡◌, ap, ◌∙◌, sym, subst, Contains, List, ℕ, arith}
use Rattle.acc_tape.proofs.Splitting.{splits_ok}
use Rattle.acc_tape.proofs.Visits.{bare, opened, closed, stays_named, may_leave, visits, turns_split}
use Rattle.acc_tape.proofs.tape.Tape.split.Goals as goal

pub leave-requires-clause-turn : goal.leave-requires-clause-turn
leave-requires-clause-turn g c =
    let p = g.E.Posted in
    let m = c.first.inside.token.me in
    let x = c.slot_mut.result.now in
    may_leave p.actor_of p.bytes g.R.Rules.fits m c.first.invariant c.begin.new.token.me c.begin.ensures.turn x c.slot_mut.ensures.value c.name.new.self (stays_named p.actor_of p.bytes g.R.Rules.fits m x c.name.new.self c.args.actor c.first.invariant c.name.ensures.named)

pub split_seat-token-requires : goal.split_seat-token-requires
split_seat-token-requires g c =
    let p = g.E.Posted in
    let m = c.first.inside.token.me in
    let x = c.slot_mut.result.now in
    let visit = visits p.actor_of p.bytes g.R.Rules.fits m _ _ c.first.invariant c.first.view_is c.begin.new.token.me c.begin.ensures.turn x c.slot_mut.ensures.value c.name.new.self (stays_named p.actor_of p.bytes g.R.Rules.fits m x c.name.new.self c.args.actor c.first.invariant c.name.ensures.named) c.name.ensures.within _ (c.leave.ensures.tape ∙ c.begin.ensures.tape) c.leave.new.token.me c.leave.ensures.left in
    let left = closed p.actor_of p.bytes g.R.Rules.fits m.0 c.begin.new.token.me x c.name.new.self (opened p.actor_of p.bytes g.R.Rules.fits m.0 c.begin.new.token.me c.begin.ensures.turn x c.slot_mut.ensures.value) c.leave.new.token.me c.leave.ensures.left in
    let named : c.leave.new.token.me.0.named ≡ c.args.actor = ap (λ n. n.0.named) left ∙ ap (λ k. k.named) c.name.ensures.named in
    let words = c.self.invariant.0 in (
      c.leave.ensures.tape ∙ c.begin.ensures.tape ∙ ap (λ s. s.tape.table) c.first.view_is ∙ ap (λ t. t.table) (c.requires.tape ∙ sym c.self.view_is),
      omega arith,
      splits_ok p.actor_of _ _ c.leave.new.token.me.0 (bare p.actor_of p.bytes g.R.Rules.fits c.leave.new.token.me visit.0) (visit.1.turns.actor ∙ c.requires.first) (λ is. c.requires.actor.1 (subst (λ (y : List ℕ × ℕ). Contains y.0 y.1) (λ i. (visit.1.made i, named i)) is)) (λ z. c.requires.actor.0 (sym named ∙ z)),
    )

pub returns-clause-turn : goal.returns-clause-turn
returns-clause-turn g c =
    let p = g.E.Posted in
    let m = c.first.inside.token.me in
    let x = c.slot_mut.result.now in
    let visit = visits p.actor_of p.bytes g.R.Rules.fits m _ _ c.first.invariant c.first.view_is c.begin.new.token.me c.begin.ensures.turn x c.slot_mut.ensures.value c.name.new.self (stays_named p.actor_of p.bytes g.R.Rules.fits m x c.name.new.self c.args.actor c.first.invariant c.name.ensures.named) c.name.ensures.within _ (c.leave.ensures.tape ∙ c.begin.ensures.tape) c.leave.new.token.me c.leave.ensures.left in
    turns_split p.actor_of p.bytes g.R.Rules.fits c.args.first.now c.leave.new.token.me.0 c.split_seat-token.new.seat.me.0 _ _ visit.1.turns c.split_seat-token.ensures.0 (ap (λ n. n.0) c.split_seat-token.ensures.2)
