-- The due step is one of the cluster, and leads on or ends in a limit.
use Rattle.std.proofs.Common.{◌+◌, refl}
use Rattle.acc_message.specs.declared.error.RunError.TheVariants.{OutOfMemory}
use Rattle.acc_cluster.specs.Steps.{IfLimit}
use Rattle.acc_run.proofs.Taking.{handed_on}
use Rattle.acc_heal.specs.Places.{IsDue, EndsWithin}
use Rattle.acc_heal.proofs.DueSteps.{StepByStep, due_here, one_step_leads, if_step_ends}
use Rattle.acc_heal.proofs.taking.take.Goals as goal

pub step-requires-clause-standing : goal.step-requires-clause-standing
step-requires-clause-standing g c = (c.requires.standing.healing.at, c.requires.standing.healing.stands)

pub step-requires-clause-known : goal.step-requires-clause-known
step-requires-clause-known g c =
    let s = c.requires.standing in
    let h = s.healing in
    let law : StepByStep =
    record {
      step = c.healings_go_step_by_step.ensures.step;
      strictly = c.healings_go_step_by_step.ensures.strict_step;
      answers = c.healings_go_step_by_step.ensures.answers;
    } in
    c.healings_go_step_by_step.ensures.known c.args.plan.now h.answers h.steps s.between (record { stage = s.place.stage; at = h.at }) c.args.step.now c.requires.is_plan h.follows h.goes
    (due_here g.D.Disk c.args.plan.now law c.args.number.now (c.args.number.now + 1) c.args.step.now refl c.args.cluster.now s.place s.before s.between h)

pub returns-clause-ok : goal.returns-clause-ok
returns-clause-ok g c =
    one_step_leads g.D.Disk c.args.plan.now
    (record {
      step = c.healings_go_step_by_step.ensures.step;
      strictly = c.healings_go_step_by_step.ensures.strict_step;
      answers = c.healings_go_step_by_step.ensures.answers;
    }) c.args.number.now c.in_ok-next.next c.args.step.now c.in_ok-next.ensures c.args.cluster.now c.step.new.self c.in_ok-step.ensures.ok c.in_ok-step.ensures.strict

pub returns-in_err-step-clause-limit : goal.returns-in_err-step-clause-limit
returns-in_err-step-clause-limit g c =
    handed_on (IfLimit (EndsWithin g.D.Disk c.args.plan.now c.args.cluster.now (IsDue c.args.plan.now c.args.number.now c.args.step.now))) c.from_residual.result
    c.in_err-step.field-0.0 c.from_residual.ensures.1
    (if_step_ends g.D.Disk c.args.plan.now
    (record {
      step = c.healings_go_step_by_step.ensures.step;
      strictly = c.healings_go_step_by_step.ensures.strict_step;
      answers = c.healings_go_step_by_step.ensures.answers;
    }) c.args.number.now (c.args.number.now + 1) c.args.step.now refl c.args.cluster.now c.step.new.self c.in_err-step.field-0.0 c.in_err-step.ensures.limit
    c.in_err-step.ensures.strict_limit)

-- a number that is too great tells of no limit
pub returns-in_err-next-clause-limit : goal.returns-in_err-next-clause-limit
returns-in_err-next-clause-limit g c =
    handed_on (IfLimit (EndsWithin g.D.Disk c.args.plan.now c.args.cluster.now (IsDue c.args.plan.now c.args.number.now c.args.step.now))) c.from_residual-in_err-next.result OutOfMemory
    c.from_residual-in_err-next.ensures.1 tt
