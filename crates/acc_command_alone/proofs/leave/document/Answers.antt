-- The items obey the plan and are a run, and their journals are written, or a limit ends the run.
use Rattle.std.proofs.Common.{subst}
use Rattle.std.specs.Prelude.{reverse}
use Rattle.serde_json.specs.View.{view}
use Rattle.acc_left.specs.Documents.{left_data, IsLine}
use Rattle.acc_schedule_runs.specs.Schedules.{cluster_of}
use Rattle.acc_command_alone.specs.Command.{OverDisks}
use Rattle.acc_command_alone.proofs.DueFacts.{limited, same_limit}
use Rattle.acc_command_alone.proofs.LeavingFacts.{are_short, left}
use Rattle.acc_command_alone.proofs.leave.document.Goals as goal

pub leave-requires : goal.leave-requires
leave-requires g c =
    let plan = c.args.plan.now in
    let items = reverse c.in-Ok.items in
    record {
      short =
          are_short plan items (c.messages_are_short.ensures.run (cluster_of plan) items) (c.plans_are_valid.ensures plan c.requires) (c.plans_have_few_bodies.ensures plan c.requires)
          (c.plans_run_safely.ensures.run plan c.in-Ok.ensures.ran.answers items c.requires c.in-Ok.ensures.ran.obeys);
    }

pub returns-in-Ok : goal.returns-in-Ok
returns-in-Ok g c =
    let plan = c.args.plan.now in
    let items = reverse c.in-Ok.items in
    left (OverDisks g.M.D.Disk (g.M.DiskMaker.strict c.args.disks.now) (g.M.DiskMaker.given c.args.disks.now) (g.M.DiskMaker.given c.run_plan.new.disks)) plan (view c.args.root) items
    c.in_ok-text-in-Ok.text c.requires
    (c.plans_run_safely.ensures.run plan c.in-Ok.ensures.ran.answers items c.requires c.in-Ok.ensures.ran.obeys) c.in-Ok.ensures.within
    (record { ran = c.in-Ok.ensures.ran; strictly = c.in-Ok.ensures.strict })
    (subst (λ images. IsLine (left_data (view c.args.root) images) c.in_ok-text-in-Ok.text) c.in_ok-images-in-Ok.ensures c.in_ok-text-in-Ok.ensures)

pub returns-in-Err-Limit : goal.returns-in-Err-Limit
returns-in-Err-Limit g c =
    limited g.M.D.Disk (g.M.DiskMaker.strict c.args.disks.now) _ _ c.args.plan.now c.in-Err-Limit.which c.in-Err-Limit.number
    c.in_ok-limit_line-in-Err-Limit.field-0
    (c.in-Err-Limit.ensures.limit c.in-Err-Limit.which c.in-Err-Limit.number c.in-Err-Limit.field-0-is)
    (same_limit _ _ _ _ _ c.in_ok-limit_line-in-Err-Limit.ensures c.in-Err-Limit.which-is c.in-Err-Limit.number-is)
