use Rattle.std.proofs.Common.{◌≡◌, ◌++◌, List, sym, ◌∙◌, ap}
use Rattle.std.specs.List.{filter_map}
use Rattle.acc_stamp.specs.declared.actors.Actor.{Actor}
use Rattle.acc_schedule.specs.Content.{Content}
use Rattle.acc_schedule.specs.declared.plan.Step.{Step}
use Rattle.acc_schedule_runs.specs.Situations.{whole}
use Rattle.acc_heal_laws.specs.Stages.{is_armed, reopening_step}
use Rattle.acc_heal.specs.Actors.{has_actor}
use Rattle.acc_heal.proofs.ReopeningFacts.{one_given}
use Rattle.acc_heal.proofs.reopening.reopening.Goals as goal

pub loop-actor-preserved-in-Continue-branch-3 : goal.loop-actor-preserved-in-Continue-branch-3
loop-actor-preserved-in-Continue-branch-3 g c = λ s stands.
    let plan = c.args.plan.now in
    let actor = c.in-Some.actor.now in
    let left : List Actor = c.next.new.self in
    let before = c.loop-actor.steps.items in
    let named : has_actor c.in_ok-armed.armed.keys actor ≡ is_armed plan.steps actor =
    c.in_ok-armed.ensures actor ∙ ap (λ steps. is_armed steps actor) (c.as_slice.ensures ∙ ap (λ (p : Content). p.steps) c.plan.view_is) in
    ap (λ (steps : List Step). steps ++ filter_map (reopening_step plan.steps (whole s)) left) c.in_ok-push.ensures.items
    ∙ one_given (reopening_step plan.steps (whole s)) c.in-Some-reopening_step.step actor left before _
    (sym c.in-Some-reopening_step.is ∙ c.reopening_step.ensures plan s stands named)
    (ap (λ (actors : List Actor). before ++ filter_map (reopening_step plan.steps (whole s)) actors) (sym c.in-Some.ensures.steps) ∙ c.loop-actor.invariant s stands)
