use Rattle.std.proofs.Common.{◌∙◌, subst}
use Rattle.acc_glance.specs.declared.stages.Stage.{Stage}
use Rattle.acc_glance.specs.Visits.{IsVisitOf}
use Rattle.acc_glance.proofs.VisitFacts.{due_moves}
use Rattle.acc_glance.proofs.visits.advance.Goals as goal

pub returns-clause-stage : goal.returns-clause-stage
returns-clause-stage g c = λ s stands so.
    c.in_ok-next.ensures s stands
    ∙ due_moves c.args.plan.now c.args.visitor.now.look c.args.moment.over c.args.moment.number s c.args.visitor.now.stage c.course_of-course.result c.if-not-is_due.ensures
    (subst (λ (stage : Stage). IsVisitOf s stage c.course_of-course.result) (c.replace-stage.ensures.value ∙ c.in_ok-passed.ensures.kept c.if-passed.false)
    (c.course_of-course.ensures c.args.plan.now s stands))
