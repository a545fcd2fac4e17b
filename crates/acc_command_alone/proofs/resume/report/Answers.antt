-- The items go on from each run that left the journals, or a limit ends the steps.
use Rattle.std.proofs.Common.{◌∙◌, ap}
use Rattle.std.specs.Prelude.{reverse}
use Rattle.acc_schedule.specs.Content.{Content}
use Rattle.acc_report.specs.Report.{report_text}
use Rattle.acc_command_alone.proofs.DueFacts.{same_limit}
use Rattle.acc_command_alone.proofs.resume.report.Goals as goal

pub returns-in_ok-text-in-Ok : goal.returns-in_ok-text-in-Ok
returns-in_ok-text-in-Ok c = record {
  items = reverse c.in-Ok.items;
  goes_on = c.in-Ok.ensures.ran;
  roll = c.in_ok-roll-in-Ok.roll;
  lists = c.in_ok-roll-in-Ok.ensures;
  prints =
      c.in_ok-text-in-Ok.ensures
      ∙ ap (λ (plan : Content). report_text plan.print plan.names c.in_ok-roll-in-Ok.roll (reverse c.in-Ok.items)) c.plan.view_is;
}

pub returns-in_ok-limit_line-in-Err-Limit : goal.returns-in_ok-limit_line-in-Err-Limit
returns-in_ok-limit_line-in-Err-Limit c = record {
  which = c.in-Err-Limit.which;
  number = c.in-Err-Limit.number;
  ends = c.in-Err-Limit.ensures.limit c.in-Err-Limit.which c.in-Err-Limit.number c.in-Err-Limit.field-0-is;
  prints = same_limit _ _ _ _ _ c.in_ok-limit_line-in-Err-Limit.ensures c.in-Err-Limit.which-is c.in-Err-Limit.number-is;
}
