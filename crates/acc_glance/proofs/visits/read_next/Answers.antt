use Rattle.std.proofs.Common.{sym, ◌∙◌}
use Rattle.acc_store.specs.Queries.{cell_if_applied}
use Rattle.acc_glance.proofs.VisitFacts.{as_many, shown_cell, shown_none, told_is}
use Rattle.acc_glance.proofs.visits.read_next.Goals as goal

pub returns-in-Some-2 : goal.returns-in-Some-2
returns-in-Some-2 g c = λ s stands.
    let plan = c.args.plan.now in
    let key = c.args.key.now in
    let course = c.args.course in
    let node = c.in-Some.place.node in
    let next = c.in-Some.ensures.some s stands in
    shown_cell plan s key c.args.over course node c.len.result c.in-Some-2.cell next.due
    (sym c.in-Some-2.is
    ∙ told_is (λ layout shard history. cell_if_applied layout shard history course.told key) c.in_ok-cell.field-0 plan s key node c.in-Some.place.store.now stands.sound
    next.stands c.in_ok-cell.ensures)
    (as_many s.own c.items.result.now.items c.len.result c.len.ensures (c.items.ensures plan s stands))

pub returns-in_ok-passed-in-None : goal.returns-in_ok-passed-in-None
returns-in_ok-passed-in-None g c = λ s stands.
    let plan = c.args.plan.now in
    let key = c.args.key.now in
    let course = c.args.course in
    let node = c.in-Some.place.node in
    let next = c.in-Some.ensures.some s stands in
    shown_none plan s key c.args.over course c.in_ok-passed-in-None.field-0 node next.due
    (sym c.in-None.is
    ∙ told_is (λ layout shard history. cell_if_applied layout shard history course.told key) c.in_ok-cell.field-0 plan s key node c.in-Some.place.store.now stands.sound
    next.stands c.in_ok-cell.ensures)
    c.in_ok-passed-in-None.ensures
