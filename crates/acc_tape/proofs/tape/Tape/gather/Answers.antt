use Rattle.std.proofs.Common.{◌≡◌, ap, ◌∙◌, sym, map, arith}
use Rattle.acc_tape.specs.Turn.{gone_seat}
use Rattle.acc_tape.proofs.Joining.{joins_ok}
use Rattle.acc_tape.proofs.Visits.{bare, joined_rests, of_next}
use Rattle.acc_tape.proofs.tape.Tape.gather.Goals as goal

pub join_seat-requires : goal.join_seat-requires
join_seat-requires g c =
    let p = g.E.Posted in
    let l = c.loop-other.invariant in
    let tape = ap (λ t. t.table) (sym c.self.view_is) in
    let words = c.self.invariant.0 in
    let free = of_next (λ s. (s.tape ≡ c.args.self.now) × (s.held_items ≡ 0) × (s.held_weight ≡ 0)) c.args.others c.loop-other.yielded _ _ c.in-Some.other l.rest c.in-Some.ensures.steps.0 c.requires.others in (
      l.tape ∙ c.requires.tape ∙ tape,
      ap (λ s. s.tape.table) c.other.view_is ∙ ap (λ t. t.table) free.0 ∙ tape,
      c.other.invariant.no_slot,
      omega arith,
      joins_ok p.actor_of _ _ _ c.loop-other.first.me.0 c.other.inside.token.me.0 (joined_rests p.actor_of p.bytes g.R.Rules.fits c.args.first.now.me (map gone_seat c.loop-other.yielded) c.loop-other.first.me l.me c.requires.first.0)
          (ap (λ m. m.0.actor) l.me ∙ c.requires.first.1) (bare p.actor_of p.bytes g.R.Rules.fits c.other.inside.token.me c.other.invariant) (ap (λ s. s.held_items) c.other.view_is ∙ free.1, ap (λ s. s.held_weight) c.other.view_is ∙ free.2),
    )
