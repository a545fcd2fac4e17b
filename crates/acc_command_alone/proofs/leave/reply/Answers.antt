-- The line of the refusal is due, or how the run of the plan ends with its journals.
use Rattle.serde_json.specs.View.{view}
use Rattle.acc_command_alone.proofs.CommandFacts.{refusal}
use Rattle.acc_command_alone.proofs.LeavingFacts.{leave_due}
use Rattle.acc_command_alone.proofs.leave.reply.Goals as goal

pub returns-in-Ok : goal.returns-in-Ok
returns-in-Ok g c =
    leave_due _ c.args.bytes (view c.in-Ok.root) c.in-Ok.plan c.document-reply.result c.requires c.in-Ok.ensures.reads c.in-Ok.ensures.keeps_rules c.in-Ok.ensures.says
    c.document-reply.ensures

pub returns-in_ok-refusal_line-in-Err : goal.returns-in_ok-refusal_line-in-Err
returns-in_ok-refusal_line-in-Err g c =
    (c.requires, refusal c.args.bytes c.in-Err.error c.in_ok-refusal_line-in-Err.field-0 c.in-Err.ensures.refused c.in_ok-refusal_line-in-Err.ensures)
