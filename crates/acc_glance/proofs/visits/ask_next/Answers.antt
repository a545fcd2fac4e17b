use Rattle.std.proofs.Common.{[], ◌++◌, sym, ◌∙◌, ap}
use Rattle.acc_stamp.specs.Rising.{ids_union}
use Rattle.acc_schedule_runs.specs.Schedules.{cluster_of}
use Rattle.acc_store.specs.Queries.{known_writers}
use Rattle.acc_glance.specs.Stages.{first_left}
use Rattle.acc_glance.proofs.VisitFacts.{asked_more, told_is}
use Rattle.acc_glance.proofs.visits.ask_next.Goals as goal

pub returns : goal.returns
returns g c = λ s stands.
    let plan = c.args.plan.now in
    let key = c.args.key.now in
    let course = c.args.course in
    let node = c.in-Some.place.node in
    let writers = c.in_ok-writers.writers in
    let first = c.in-Some.ensures.some s stands in
    asked_more plan s key c.args.over course node c.push.new.self c.in_ok-told.told writers
    (ap (first_left (cluster_of plan) s key 0) (sym c.as_slice.ensures) ∙ first.left)
    (told_is (λ layout shard history. known_writers layout shard history key) writers plan s key node c.in-Some.place.store.now stands.sound first.stands
    c.in_ok-writers.ensures.ids)
    (c.in_ok-told.ensures ∙ ap (λ l. ids_union [] (writers ++ l)) c.as_slice-2.ensures) c.in_ok-push.ensures.ok
