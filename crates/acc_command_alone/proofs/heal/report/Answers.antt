-- The items are healed and safe, or a limit ends the run or its healing.
use Rattle.std.proofs.Common.{◌∙◌, [], ap}
use Rattle.std.specs.Prelude.{reverse}
use Rattle.acc_schedule.specs.Content.{Content}
use Rattle.acc_report.specs.Report.{report_text}
use Rattle.acc_command_alone.proofs.DueFacts.{reported, same_limit}
use Rattle.acc_command_alone.proofs.HealingFacts.{limit_told}
use Rattle.acc_command_alone.proofs.heal.report.Goals as goal

pub returns-in_ok-text-in-Ok : goal.returns-in_ok-text-in-Ok
returns-in_ok-text-in-Ok g c =
    let plan = c.args.plan.now in
    let items = reverse c.in-Ok.items in
    let ran = c.in-Ok.ensures.ran in
    reported _ plan items c.in_ok-text-in-Ok.text
    (record {
      run = c.healed_runs_are_safe.ensures.run plan ran.answers items c.requires ran.heals;
      agreement = c.healed_runs_are_safe.ensures.agreement plan ran.answers items c.requires ran.heals;
      coverage = c.healed_runs_are_safe.ensures.coverage plan ran.answers items c.requires ran.heals;
      serial = c.healed_runs_are_safe.ensures.serial plan ran.answers items c.requires ran.heals;
    })
    c.in-Ok.ensures.within
    (record {
      ran = ran;
      healed = λ later is nobody. c.healings_heal.ensures.healed plan ran.answers items later c.requires ran.heals is nobody;
      strictly = λ strict. (c.in-Ok.ensures.strict strict, c.healings_heal.ensures.strictly plan items c.requires (c.in-Ok.ensures.strict strict));
    })
    (c.in_ok-text-in-Ok.ensures ∙ ap (λ roll. report_text c.plan.inside.print c.plan.inside.names roll items) c.new.ensures
    ∙ ap (λ (plan : Content). report_text plan.print plan.names [] items) c.plan.view_is)

pub returns-in_ok-limit_line-in-Err-Limit : goal.returns-in_ok-limit_line-in-Err-Limit
returns-in_ok-limit_line-in-Err-Limit g c =
    limit_told g.M.D.Disk (g.M.DiskMaker.strict c.args.disks.now) _ _ c.args.plan.now c.in-Err-Limit.which c.in-Err-Limit.number
    c.in_ok-limit_line-in-Err-Limit.field-0 (c.one_healing_limit_over_strict_disks.ensures.answered c.args.plan.now)
    (c.in-Err-Limit.ensures.limit c.in-Err-Limit.which c.in-Err-Limit.number c.in-Err-Limit.field-0-is)
    (λ strict. c.in-Err-Limit.ensures.strict_limit strict c.in-Err-Limit.which c.in-Err-Limit.number c.in-Err-Limit.field-0-is)
    (same_limit _ _ _ _ _ c.in_ok-limit_line-in-Err-Limit.ensures c.in-Err-Limit.which-is c.in-Err-Limit.number-is)
