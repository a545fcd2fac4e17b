-- A drain, or a limit inside it.
use Rattle.acc_free_ending.proofs.Steps.{on_ok, on_limit, both_on_ok, both_on_limit, some_answers}
use Rattle.acc_free_ending.proofs.Rounds.{drained, drain_limit}
use Rattle.acc_free_ending.proofs.round.drain.Goals as goal

pub step-requires-clause-standing : goal.step-requires-clause-standing
step-requires-clause-standing g c = (c.requires.standing.0, c.requires.standing.1.stands)

pub returns-clause-ok : goal.returns-clause-ok
returns-clause-ok g c =
    on_ok _ _ c.step.result
    (λ steps strict_run s serves.
    drained c.args.plan.now c.requires.is_plan g.D.Disk strict_run s c.args.cluster.now serves
    c.schedule_steps_serve.ensures.drain some_answers c.step.new.self (steps.0 s some_answers serves.stands) steps.1)
    (both_on_ok _ _ c.step.result c.step.ensures.ok c.step.ensures.strict)

pub returns-clause-limit : goal.returns-clause-limit
returns-clause-limit g c =
    on_limit _ _ c.step.result
    (λ which most ends strict_run s serves each.
    drain_limit c.args.plan.now c.requires.is_plan g.D.Disk strict_run s c.args.cluster.now serves
    c.schedule_steps_serve.ensures.delivery some_answers which most c.step.new.self (ends.0 s some_answers serves.stands).0 (ends.0 s some_answers serves.stands).1 ends.1 each)
    (both_on_limit _ _ c.step.result c.step.ensures.limit c.step.ensures.strict_limit)
