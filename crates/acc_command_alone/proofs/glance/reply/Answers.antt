-- The line of the refusal is due, or how the run of the plan with its looks ends.
use Rattle.acc_command_alone.proofs.GlanceFacts.{glance_due, looks_refusal}
use Rattle.acc_command_alone.proofs.glance.reply.Goals as goal

pub returns-in-Ok : goal.returns-in-Ok
returns-in-Ok g c = glance_due _ _ c.args.bytes c.in-Ok.plan c.in-Ok.looks c.report-reply.result c.requires c.in-Ok.ensures.accepted c.report-reply.ensures

pub returns-in_ok-refusal_line-in-Err : goal.returns-in_ok-refusal_line-in-Err
returns-in_ok-refusal_line-in-Err g c =
    (c.requires, looks_refusal c.args.bytes c.in-Err.error c.in_ok-refusal_line-in-Err.field-0 c.in-Err.ensures.refused c.in_ok-refusal_line-in-Err.ensures)
