-- The items obey the plan and are safe, with what the looks have seen, or a limit ends the run.
use Rattle.std.specs.Prelude.{reverse}
use Rattle.acc_command_alone.specs.Command.{OverDisks}
use Rattle.acc_command_alone.specs.Glancing.{SeesOver}
use Rattle.acc_command_alone.proofs.DueFacts.{limited, same_limit}
use Rattle.acc_command_alone.proofs.GlanceFacts.{obeys_alone, ran_alone, reported_looks}
use Rattle.acc_command_alone.proofs.glance.report.Goals as goal

pub returns-in_ok-text-in-Ok : goal.returns-in_ok-text-in-Ok
returns-in_ok-text-in-Ok g c =
    let plan = c.args.plan.now in
    let looks = c.args.looks.now in
    let items = reverse c.in-Ok.items in
    let seens = c.in-Ok.seens in
    let strict = g.M.DiskMaker.strict c.args.disks.now in
    let before = g.M.DiskMaker.given c.args.disks.now in
    let after = g.M.DiskMaker.given c.glance_plan.new.disks in
    let ran = ran_alone g.M.D.Disk plan looks items seens before after c.in-Ok.ensures.ran in
    reported_looks (OverDisks g.M.D.Disk strict before after) (SeesOver g.M.D.Disk strict before after) plan looks items seens c.in_ok-text-in-Ok.text
    (record {
      run = c.plans_run_safely.ensures.run plan ran.answers items c.requires.is_plan ran.obeys;
      agreement = c.plans_run_safely.ensures.agreement plan ran.answers items c.requires.is_plan ran.obeys;
      coverage = c.plans_run_safely.ensures.coverage plan ran.answers items c.requires.is_plan ran.obeys;
      serial = c.plans_run_safely.ensures.serial plan ran.answers items c.requires.is_plan ran.obeys;
    })
    c.in-Ok.ensures.within
    (record { ran = ran; strictly = λ is. obeys_alone plan looks items seens (c.in-Ok.ensures.strict is) })
    (c.in-Ok.ensures.ran, λ is. c.in-Ok.ensures.strict is)
    c.in_ok-text-in-Ok.ensures

pub returns-in_ok-limit_line-in-Err-Limit : goal.returns-in_ok-limit_line-in-Err-Limit
returns-in_ok-limit_line-in-Err-Limit g c =
    limited g.M.D.Disk (g.M.DiskMaker.strict c.args.disks.now) _ _ c.args.plan.now c.in-Err-Limit.which c.in-Err-Limit.number
    c.in_ok-limit_line-in-Err-Limit.field-0
    (c.in-Err-Limit.ensures.limit c.in-Err-Limit.which c.in-Err-Limit.number c.in-Err-Limit.field-0-is)
    (same_limit _ _ _ _ _ c.in_ok-limit_line-in-Err-Limit.ensures c.in-Err-Limit.which-is c.in-Err-Limit.number-is)
