-- One more stands by itself.
use Rattle.std.proofs.Common.{[], ◌∷◌, ◌++◌, map, sym, ◌∙◌, ap}
use Rattle.std.specs.Vec.Iter.{into_iter_items}
use Rattle.std.proofs.lemmas.List.{map-append}
use Rattle.acc_cluster.proofs.Turns.{one_more, all_out}
use Rattle.acc_free.specs.Parts.{seat_in, rest_in}
use Rattle.acc_free.proofs.Parting.{same_rest}
use Rattle.acc_free.proofs.closing.apart.Goals as goal

pub loop-desk-preserved : goal.loop-desk-preserved
loop-desk-preserved g c =
    let before = c.loop-desk.invariant in
    let parts = c.into_parts-seat.ensures in
    record {
      can_next = tt;
      is_finite = tt;
      rest = one_more c.loop-desk.yielded c.in-Some.desk (into_iter_items c.loop-desk.desk-iterator) (into_iter_items c.next.new.self) c.args.desks.items before.rest c.in-Some.ensures.steps.0;
      seats = c.in_ok-push.ensures.items ∙ ap (λ s. c.loop-desk.seats.items ++ s ∷ []) parts.1 ∙ ap (λ l. l ++ seat_in c.in-Some.desk ∷ []) before.seats ∙ sym (map-append seat_in c.loop-desk.yielded (c.in-Some.desk ∷ []));
      rests = c.in_ok-push-2.ensures.items ∙ ap (λ r. c.loop-desk.rests.items ++ r ∷ []) (same_rest _ (rest_in c.in-Some.desk) parts.0 parts.2 parts.3 parts.4) ∙ ap (λ l. l ++ rest_in c.in-Some.desk ∷ []) before.rests ∙ sym (map-append rest_in c.loop-desk.yielded (c.in-Some.desk ∷ []));
    }

pub returns-clause-seats : goal.returns-clause-seats
returns-clause-seats g c =
    let left = c.loop-desk.desk-iterator in
    c.from_vec.ensures ∙ c.loop-desk.invariant.seats
    ∙ ap (map seat_in) (all_out c.loop-desk.yielded (into_iter_items left) c.args.desks.items left.rest.len c.loop-desk.invariant.rest left.rest.ok.0 c.in-None.ensures.steps.0)

pub returns-clause-rests : goal.returns-clause-rests
returns-clause-rests g c =
    let left = c.loop-desk.desk-iterator in
    c.loop-desk.invariant.rests
    ∙ ap (map rest_in) (all_out c.loop-desk.yielded (into_iter_items left) c.args.desks.items left.rest.len c.loop-desk.invariant.rest left.rest.ok.0 c.in-None.ensures.steps.0)
