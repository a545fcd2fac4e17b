-- The items are served and safe, or a limit ends the run.
use Rattle.std.proofs.Common.{◌∙◌, [], ap}
use Rattle.std.specs.Prelude.{reverse}
use Rattle.acc_schedule.specs.Content.{Content}
use Rattle.acc_report.specs.Report.{report_text}
use Rattle.acc_command_alone.proofs.DueFacts.{reported, same_limit, told}
use Rattle.acc_command.specs.Free.{OverThreads}
use Rattle.acc_command.proofs.free.report.Goals as goal

pub returns-in_ok-text-in-Ok : goal.returns-in_ok-text-in-Ok
returns-in_ok-text-in-Ok g c =
    reported _ c.args.plan.now (reverse c.in-Ok.items) c.in_ok-text-in-Ok.text
    (record {
      run = c.in-Ok.ensures.served.free.run;
      agreement = c.free_runs_are_safe.ensures.agreement c.args.plan.now (reverse c.in-Ok.items) c.requires.is_plan c.in-Ok.ensures.served.free;
      coverage = c.free_runs_are_safe.ensures.coverage c.args.plan.now (reverse c.in-Ok.items) c.requires.is_plan c.in-Ok.ensures.served.free;
      serial = c.free_runs_are_safe.ensures.serial c.args.plan.now (reverse c.in-Ok.items) c.requires.is_plan c.in-Ok.ensures.served.free;
    })
    c.in-Ok.ensures.within
    (record { served = c.in-Ok.ensures.served; back = c.in-Ok.ensures.given; stayed = c.in-Ok.ensures.stayed })
    (c.in_ok-text-in-Ok.ensures ∙ ap (λ roll. report_text c.plan.inside.print c.plan.inside.names roll (reverse c.in-Ok.items)) c.new.ensures
    ∙ ap (λ (plan : Content). report_text plan.print plan.names [] (reverse c.in-Ok.items)) c.plan.view_is)

pub returns-in_ok-limit_line-in-Err-Limit : goal.returns-in_ok-limit_line-in-Err-Limit
returns-in_ok-limit_line-in-Err-Limit g c =
    let front = c.in-Err-Limit.ensures.limit c.in-Err-Limit.which c.in-Err-Limit.number c.in-Err-Limit.field-0-is in
    told (OverThreads g.M.D.Disk (g.M.DiskMaker.strict c.args.disks.now) _ _) c.args.plan.now front.0 c.in-Err-Limit.which
    c.in-Err-Limit.number c.in_ok-limit_line-in-Err-Limit.field-0 (front.1, front.2)
    (same_limit _ _ _ _ _ c.in_ok-limit_line-in-Err-Limit.ensures c.in-Err-Limit.which-is c.in-Err-Limit.number-is)
