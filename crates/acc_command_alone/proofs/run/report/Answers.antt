-- The items obey the plan and are safe, or a limit ends the run.
use Rattle.std.proofs.Common.{◌∙◌, [], ap}
use Rattle.std.specs.Prelude.{reverse}
use Rattle.acc_schedule.specs.Content.{Content}
use Rattle.acc_report.specs.Report.{report_text}
use Rattle.acc_command_alone.proofs.DueFacts.{limited, reported, same_limit}
use Rattle.acc_command_alone.proofs.run.report.Goals as goal

pub returns-in_ok-text-in-Ok : goal.returns-in_ok-text-in-Ok
returns-in_ok-text-in-Ok g c =
    reported _ c.args.plan.now (reverse c.in-Ok.items) c.in_ok-text-in-Ok.text
    (record {
      run = c.plans_run_safely.ensures.run c.args.plan.now c.in-Ok.ensures.ran.answers (reverse c.in-Ok.items) c.requires c.in-Ok.ensures.ran.obeys;
      agreement = c.plans_run_safely.ensures.agreement c.args.plan.now c.in-Ok.ensures.ran.answers (reverse c.in-Ok.items) c.requires c.in-Ok.ensures.ran.obeys;
      coverage = c.plans_run_safely.ensures.coverage c.args.plan.now c.in-Ok.ensures.ran.answers (reverse c.in-Ok.items) c.requires c.in-Ok.ensures.ran.obeys;
      serial = c.plans_run_safely.ensures.serial c.args.plan.now c.in-Ok.ensures.ran.answers (reverse c.in-Ok.items) c.requires c.in-Ok.ensures.ran.obeys;
    })
    c.in-Ok.ensures.within
    (record { ran = c.in-Ok.ensures.ran; strictly = c.in-Ok.ensures.strict })
    (c.in_ok-text-in-Ok.ensures ∙ ap (λ roll. report_text c.plan.inside.print c.plan.inside.names roll (reverse c.in-Ok.items)) c.new.ensures
    ∙ ap (λ (plan : Content). report_text plan.print plan.names [] (reverse c.in-Ok.items)) c.plan.view_is)

pub returns-in_ok-limit_line-in-Err-Limit : goal.returns-in_ok-limit_line-in-Err-Limit
returns-in_ok-limit_line-in-Err-Limit g c =
    limited g.M.D.Disk (g.M.DiskMaker.strict c.args.disks.now) _ _ c.args.plan.now c.in-Err-Limit.which c.in-Err-Limit.number
    c.in_ok-limit_line-in-Err-Limit.field-0
    (c.in-Err-Limit.ensures.limit c.in-Err-Limit.which c.in-Err-Limit.number c.in-Err-Limit.field-0-is)
    (same_limit _ _ _ _ _ c.in_ok-limit_line-in-Err-Limit.ensures c.in-Err-Limit.which-is c.in-Err-Limit.number-is)
