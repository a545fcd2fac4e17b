-- The items are those of the plan's steps after each run that left the images, or a limit ends just these.
use Rattle.std.proofs.Common.{List, subst}
use Rattle.acc_schedule_runs.specs.Schedules.{cluster_of}
use Rattle.acc_schedule_runs.specs.StrictMoves.{opened_strictly}
use Rattle.acc_cluster.specs.Stands.{StandsStrictly}
use Rattle.acc_left.specs.declared.image.Image.{Image}
use Rattle.acc_left_laws.specs.Left.{reopened_run}
use Rattle.acc_resume.specs.Opened.{memory}
use Rattle.acc_resume.specs.Resumed.{OfEachRun}
use Rattle.acc_resume.proofs.Whole.{AreSafe, goes_on_to, limit_behind}
use Rattle.acc_resume.proofs.resuming.resume.Goals as goal

pub returns-clause-ran : goal.returns-clause-ran
returns-clause-ran c =
    let plan = c.args.plan.now in
    let valid = c.plans_are_valid.ensures plan c.requires.is_plan in
    let safe : AreSafe (cluster_of plan) =
    record {
      agreement = λ items run. c.agreement.ensures (cluster_of plan) items valid run;
      coverage = λ items run. c.coverage.ensures (cluster_of plan) items valid run;
      serial = λ items run. c.serial.ensures (cluster_of plan) items valid run;
    } in
    let stands : OfEachRun plan c.args.images.now (λ earlier. StandsStrictly memory plan c.in_ok-cluster.cluster.cluster (opened_strictly earlier)) =
    subst (λ (l : List Image). OfEachRun plan l (λ earlier. StandsStrictly memory plan c.in_ok-cluster.cluster.cluster (opened_strictly earlier))) c.as_slice.ensures c.in_ok-cluster.ensures.stands in
    λ s keeps has room.
    goes_on_to memory plan c.strict_disks_give_answers.ensures.follows safe (reopened_run plan s keeps) c.take_all-taken.new.cluster.cluster c.in_ok-ended.ended
    (c.in_ok-taken.ensures.ok (reopened_run plan s keeps) (stands s keeps has room)) c.in_ok-ended.ensures.ok

pub returns-in_err-taken-clause-limit : goal.returns-in_err-taken-clause-limit
returns-in_err-taken-clause-limit c =
    let plan = c.args.plan.now in
    limit_behind memory plan c.args.images.now c.in_ok-cluster.cluster
    (subst (λ (l : List Image). OfEachRun plan l (λ earlier. StandsStrictly memory plan c.in_ok-cluster.cluster.cluster (opened_strictly earlier))) c.as_slice.ensures c.in_ok-cluster.ensures.stands)
    c.in_err-taken.field-0.0 c.from_residual-in_err-taken.result c.from_residual-in_err-taken.ensures.1 c.in_err-taken.ensures.limit
