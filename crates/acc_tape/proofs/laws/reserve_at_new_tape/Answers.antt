use Rattle.std.proofs.Common.{[], ◌∷◌, ◌++◌, length, ap, ◌∙◌, sym, subst, ◌+◌}
use Rattle.std.specs.Prelude.{sum_by}
use Rattle.acc_tape.specs.Refusals.{Refuses}
use Rattle.acc_tape.specs.Visits.{plain_visit}
use Rattle.acc_tape.proofs.Alone.{refused_first}
use Rattle.acc_tape.proofs.laws.reserve_at_new_tape.Goals as goal

pub returns : goal.returns
returns g c =
    let p = g.E.Posted in
    let first = c.split.new.first in
    let seat = c.reserve.new.seat in
    let opened = c.in_ok-tape.ensures.seat in
    let begun = c.in_ok-seat.ensures in
    let refused = c.in-Err.ensures in
    let others = c.in_ok-push.ensures.ok ∙ ap (λ l. l ++ seat ∷ []) c.new-others.ensures in
    let own = begun.visit.own_last ∙ ap (λ s. s.own ++ plain_visit s.actor ∷ []) opened ∙ ap (λ n. plain_visit n ∷ []) (sym (begun.turn.actor ∙ ap (λ s. s.actor) opened)) in
    let seat_own = refused.visit.1.own_last ∙ ap (λ s. s.own ++ plain_visit s.actor ∷ []) begun.seat ∙ ap (λ n. plain_visit n ∷ []) (sym (refused.turn.actor ∙ ap (λ s. s.actor) begun.seat)) in
    refused_first p.actor_of p.bytes p.in_list first seat c.push.new.self others own seat_own (refused.same.0 ∙ ap (λ s. s.mine) begun.seat) refused.turn.reserved c.close-closed.ensures.visits
    c.close-closed.result first.made c.close-closed.ensures.ok c.close-closed.ensures.seats c.close-closed.ensures.owned _ c.args.items c.args.weight c.in-Err.error
    (subst (λ limits. Refuses limits (length seat.seen + seat.out_count) (sum_by p.bytes seat.seen + seat.out_weight) c.args.items c.args.weight c.in-Err.error) c.in_ok-tape.ensures.limits refused.cause)
