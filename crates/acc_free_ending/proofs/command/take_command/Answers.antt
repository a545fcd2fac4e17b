-- The next command goes by, or it is held.
use Rattle.std.proofs.Common.{◌+◌, drop, get_or, subst, arith}
use Rattle.acc_schedule.specs.declared.plan.Step.TheVariants.{Begin}
use Rattle.acc_schedule_runs.specs.Situations.{whole}
use Rattle.acc_free_laws.specs.Serving.{HasGone}
use Rattle.acc_free_ending.specs.Queues.{left_in}
use Rattle.acc_free_ending.specs.declared.command.Turn.{Turn}
use Rattle.acc_free_ending.specs.Moves.{IsTurn}
use Rattle.acc_free_ending.proofs.Steps.{limit_handed, both_limits, some_answers, next_in, none_in, is_own, is_known, nothing_left, waits_still, passes_on, goes_on, limit_in}
use Rattle.acc_free_ending.proofs.command.take_command.Goals as goal

pub returns-then-queue-commands-clause-ok : goal.returns-then-queue-commands-clause-ok
returns-then-queue-commands-clause-ok g c = λ strict_run s serves gone.
    nothing_left g.D.Disk strict_run c.args.plan.now c.args.queue.now.actor s c.args.cluster.now (left_in c.args.queue.now) serves gone
    (none_in c.args.queue.now c.as_slice-commands.result.now c.as_slice-commands.ensures (omega (arith, c.if-queue-commands.true)))

pub turn_of-requires : goal.turn_of-requires
turn_of-requires g c =
    let queue = c.args.queue.now in
    let xs = c.as_slice-commands.result.now in
    let command = get_or xs queue.gone (Begin 0) in
    let is = next_in queue xs (Begin 0) c.as_slice-commands.ensures (omega (arith, c.if-queue-commands.false)) in (
      c.args.plan.now,
      is_own c.args.plan.now c.requires.is_plan c.requires.standing.0 queue.actor command (drop (queue.gone + 1) queue.commands)
          (subst (HasGone c.args.plan.now c.requires.standing.0 queue.actor) is c.requires.standing.2),
    )

pub step-requires-clause-standing : goal.step-requires-clause-standing
step-requires-clause-standing g c = (c.requires.standing.0, c.requires.standing.1.stands)

pub step-requires-clause-known : goal.step-requires-clause-known
step-requires-clause-known g c =
    let queue = c.args.queue.now in
    let xs = c.as_slice-commands.result.now in
    let command = get_or xs queue.gone (Begin 0) in
    let is = next_in queue xs (Begin 0) c.as_slice-commands.ensures (omega (arith, c.if-queue-commands.false)) in
    is_known c.args.plan.now c.requires.is_plan c.requires.standing.0 queue.actor command (drop (queue.gone + 1) queue.commands)
    (subst (HasGone c.args.plan.now c.requires.standing.0 queue.actor) is c.requires.standing.2)

pub returns-in_ok-step-in-Takes-clause-ok : goal.returns-in_ok-step-in-Takes-clause-ok
returns-in_ok-step-in-Takes-clause-ok g c = λ strict_run s serves gone.
    let queue = c.args.queue.now in
    let xs = c.as_slice-commands.result.now in
    let command = get_or xs queue.gone (Begin 0) in
    let is = next_in queue xs (Begin 0) c.as_slice-commands.ensures (omega (arith, c.if-queue-commands.false)) in
    goes_on g.D.Disk strict_run c.args.plan.now queue.actor s (left_in queue) (drop (queue.gone + 1) queue.commands) command is gone
    c.schedule_steps_serve.ensures.command c.requires.is_plan c.requires.known some_answers c.args.cluster.now c.step.new.self serves
    (subst (λ (turn : Turn). IsTurn turn queue.actor (whole s) command) c.in-Takes.is (c.turn_of.ensures c.args.plan.now s serves.stands))
    (c.in_ok-step-in-Takes.ensures.ok s some_answers serves.stands) c.in_ok-step-in-Takes.ensures.strict

pub returns-in_err-step-in-Takes-clause-limit : goal.returns-in_err-step-in-Takes-clause-limit
returns-in_err-step-in-Takes-clause-limit g c =
    let queue = c.args.queue.now in
    let xs = c.as_slice-commands.result.now in
    let command = get_or xs queue.gone (Begin 0) in
    let is = next_in queue xs (Begin 0) c.as_slice-commands.ensures (omega (arith, c.if-queue-commands.false)) in
    limit_handed _ _ c.from_residual.result c.in_err-step-in-Takes.field-0.0 c.from_residual.ensures.1
    (λ which most ends strict_run s serves gone each.
    limit_in g.D.Disk strict_run c.args.plan.now queue.actor s (left_in queue) (drop (queue.gone + 1) queue.commands) command is gone
    c.schedule_steps_serve.ensures.command c.requires.is_plan c.requires.known some_answers which most c.args.cluster.now c.step.new.self serves
    (subst (λ (turn : Turn). IsTurn turn queue.actor (whole s) command) c.in-Takes.is (c.turn_of.ensures c.args.plan.now s serves.stands))
    (ends.0 s some_answers serves.stands).0 (ends.0 s some_answers serves.stands).1 ends.1 each)
    (both_limits _ _ c.in_err-step-in-Takes.field-0.0 c.in_err-step-in-Takes.ensures.limit c.in_err-step-in-Takes.ensures.strict_limit)

pub returns-in-Passes-clause-ok : goal.returns-in-Passes-clause-ok
returns-in-Passes-clause-ok g c = λ strict_run s serves gone.
    let queue = c.args.queue.now in
    let xs = c.as_slice-commands.result.now in
    let command = get_or xs queue.gone (Begin 0) in
    let is = next_in queue xs (Begin 0) c.as_slice-commands.ensures (omega (arith, c.if-queue-commands.false)) in
    passes_on g.D.Disk strict_run c.args.plan.now queue.actor s (left_in queue) (drop (queue.gone + 1) queue.commands) command is gone
    c.schedule_steps_serve.ensures.passed c.args.cluster.now serves
    (subst (λ (turn : Turn). IsTurn turn queue.actor (whole s) command) c.in-Passes.is (c.turn_of.ensures c.args.plan.now s serves.stands))

pub returns-in-Waits-clause-ok : goal.returns-in-Waits-clause-ok
returns-in-Waits-clause-ok g c = λ strict_run s serves gone.
    let queue = c.args.queue.now in
    let xs = c.as_slice-commands.result.now in
    let command = get_or xs queue.gone (Begin 0) in
    let is = next_in queue xs (Begin 0) c.as_slice-commands.ensures (omega (arith, c.if-queue-commands.false)) in
    waits_still g.D.Disk strict_run c.args.plan.now queue.actor s (left_in queue) (drop (queue.gone + 1) queue.commands) command is gone
    c.args.cluster.now serves
    (subst (λ (turn : Turn). IsTurn turn queue.actor (whole s) command) c.in-Waits.is (c.turn_of.ensures c.args.plan.now s serves.stands))
