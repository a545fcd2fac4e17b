use Rattle.std.proofs.Common.{sym, ◌∙◌, ap, subst, arith}
use Rattle.acc_schedule_runs.specs.Schedules.{cluster_of}
use Rattle.acc_store.specs.Queries.{cell_if_applied}
use Rattle.acc_glance.specs.Stages.{moved}
use Rattle.acc_glance.specs.Visits.{ReadsAfterAsking}
use Rattle.acc_glance.proofs.VisitFacts.{passed_before, told_is}
use Rattle.acc_glance.proofs.visits.pass_by.Goals as goal

pub returns-clause-passed : goal.returns-clause-passed
returns-clause-passed g c = λ made s number stands so.
    let plan = c.args.plan.now in
    let key = c.args.look.now.key in
    let course = c.in-Visiting.course in
    let node = c.in-Some.place.node in
    let next = c.in-Some.ensures.some s stands in
    passed_before plan s c.args.look.now c.args.over number course node c.if-over.false
    (sym (subst (ReadsAfterAsking (cluster_of plan) key) c.in-Visiting.is so (omega (arith, c.if-course-eq0.false)))) next.due
    (sym c.in-None.is
    ∙ told_is (λ layout shard history. cell_if_applied layout shard history course.told key) c.in_ok-read_at.field-0 plan s key node c.in-Some.place.store.now stands.sound
    next.stands c.in_ok-read_at.ensures)
    ∙ ap (moved (cluster_of plan) c.args.look.now c.args.over number s) (sym c.in-Visiting.is)
