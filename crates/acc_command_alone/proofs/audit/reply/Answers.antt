-- What is said of a case is due, or the line of its refusal.
use Rattle.std.proofs.Common.{subst, sym}
use Rattle.acc_command_alone.specs.declared.status.Status.{Status}
use Rattle.acc_command_alone.specs.Judging.{IsAuditDue}
use Rattle.acc_command_alone.proofs.JudgeFacts.{case_refusal, judged}
use Rattle.acc_command_alone.proofs.audit.reply.Goals as goal

pub returns-in_ok-judgement_line-in-Ok : goal.returns-in_ok-judgement_line-in-Ok
returns-in_ok-judgement_line-in-Ok c =
    subst (λ (s : Status). IsAuditDue c.args.bytes s c.in_ok-judgement_line-in-Ok.field-0) (sym c.status.ensures)
    (judged c.args.bytes c.in-Ok.judgement c.in_ok-judgement_line-in-Ok.field-0 c.requires c.in-Ok.ensures.judged c.in_ok-judgement_line-in-Ok.ensures)

pub returns-in_ok-refusal_line-in-Err : goal.returns-in_ok-refusal_line-in-Err
returns-in_ok-refusal_line-in-Err c =
    (c.requires, case_refusal c.args.bytes c.in-Err.error c.in_ok-refusal_line-in-Err.field-0 c.in-Err.ensures.refused c.in_ok-refusal_line-in-Err.ensures)
