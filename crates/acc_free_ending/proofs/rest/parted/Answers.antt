-- One more stands by itself.
use Rattle.std.proofs.Common.{[], ◌∷◌, ◌++◌, map, sym, ◌∙◌, ap}
use Rattle.std.specs.Vec.Iter.{into_iter_items}
use Rattle.std.proofs.lemmas.List.{map-append}
use Rattle.acc_cluster.proofs.Turns.{one_more, all_out}
use Rattle.acc_free_ending.specs.Queues.{queue_in, placed_in}
use Rattle.acc_free_ending.proofs.rest.parted.Goals as goal

pub loop-rest-preserved : goal.loop-rest-preserved
loop-rest-preserved g c =
    let before = c.loop-rest.invariant in
    record {
      can_next = tt;
      is_finite = tt;
      rest = one_more c.loop-rest.yielded c.in-Some.rest (into_iter_items c.loop-rest.rest-iterator) (into_iter_items c.next.new.self) c.args.rests.items before.rest c.in-Some.ensures.steps.0;
      slots = c.in_ok-push.ensures.items ∙ ap (λ l. l ++ placed_in c.in-Some.rest ∷ []) before.slots ∙ sym (map-append placed_in c.loop-rest.yielded (c.in-Some.rest ∷ []));
      queues = c.in_ok-push-2.ensures.items ∙ ap (λ l. l ++ queue_in c.in-Some.rest ∷ []) before.queues ∙ sym (map-append queue_in c.loop-rest.yielded (c.in-Some.rest ∷ []));
    }

pub returns-clause-slots : goal.returns-clause-slots
returns-clause-slots g c =
    let left = c.loop-rest.rest-iterator in
    c.loop-rest.invariant.slots
    ∙ ap (map placed_in) (all_out c.loop-rest.yielded (into_iter_items left) c.args.rests.items left.rest.len c.loop-rest.invariant.rest left.rest.ok.0 c.in-None.ensures.steps.0)

pub returns-clause-queues : goal.returns-clause-queues
returns-clause-queues g c =
    let left = c.loop-rest.rest-iterator in
    c.loop-rest.invariant.queues
    ∙ ap (map queue_in) (all_out c.loop-rest.yielded (into_iter_items left) c.args.rests.items left.rest.len c.loop-rest.invariant.rest left.rest.ok.0 c.in-None.ensures.steps.0)
