-- The line of the refusal is due, or how the steps of the plan end.
use Rattle.acc_command_alone.proofs.ResumingFacts.{left_refusal, refused_none, resume_does, resume_due}
use Rattle.acc_command_alone.proofs.resume.reply.Goals as goal

pub returns-in-Ok-clause-due : goal.returns-in-Ok-clause-due
returns-in-Ok-clause-due c =
    resume_due c.args.bytes c.in-Ok.plan c.in-Ok.images c.report-reply.result c.requires c.in-Ok.ensures.accepted c.report-reply.ensures

pub returns-in-Ok-clause-does : goal.returns-in-Ok-clause-does
returns-in-Ok-clause-does c = resume_does c.args.bytes c.in-Ok.plan c.in-Ok.images c.report-reply.result c.report-reply.ensures

pub returns-in_ok-refusal_line-in-Err-clause-due : goal.returns-in_ok-refusal_line-in-Err-clause-due
returns-in_ok-refusal_line-in-Err-clause-due c =
    (c.requires, left_refusal c.args.bytes c.in-Err.error c.in_ok-refusal_line-in-Err.field-0 c.in-Err.ensures.refused c.in_ok-refusal_line-in-Err.ensures)

pub returns-in_ok-refusal_line-in-Err-clause-does : goal.returns-in_ok-refusal_line-in-Err-clause-does
returns-in_ok-refusal_line-in-Err-clause-does c =
    refused_none c.args.bytes c.in-Err.error c.in_ok-refusal_line-in-Err.field-0 c.in-Err.ensures.read c.in_ok-refusal_line-in-Err.ensures
