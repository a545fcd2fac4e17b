-- What the command `audit` says of a case.
use Rattle.std.proofs.Common.{◌≡◌, ◌≤◌, ℕ, List, length, refl, arith}
use Rattle.acc_schedule.specs.declared.error.PlanError.{PlanError}
use Rattle.acc_schedule.specs.declared.error.PlanError.TheVariants.{Bad, OutOfMemory as NoMemory}
use Rattle.acc_audit.specs.declared.judgement.Judgement.{Judgement}
use Rattle.acc_audit.specs.declared.judgement.Judgement.TheVariants.{Yes, No as Not}
use Rattle.acc_audit.specs.Cases.{IsCaseCause, IsDueOn}
use Rattle.acc_audit.proofs.CaseFacts.{case_no_cause}
use Rattle.acc_command_alone.specs.declared.status.Status.{Status}
use Rattle.acc_command_alone.specs.declared.status.Status.TheVariants.{Done, No, Usage, ReadFault, WriteFault, BadInput, Limit, OutOfMemory}
use Rattle.acc_command_alone.specs.Ends.{document_limit}
use Rattle.acc_command_alone.specs.Responds.{IsVerdict}
use Rattle.acc_command_alone.specs.Judging.{judgement_text, status_of, IsAuditDue, IsCaseRefusal, JudgesOn}
use Rattle.acc_command_alone.specs.Lines.{line, IsRefusalOf}
use Rattle.acc_command_alone.proofs.RespondFacts.{IsTold}

-- what is said of a case is due with its status
pub judged : (bytes : List ℕ) (judgement : Judgement) (text : List ℕ) → length bytes ≤ document_limit → IsDueOn bytes judgement → text ≡ line (judgement_text judgement)
    → IsAuditDue bytes (status_of judgement) text
judged bytes (Yes lines) text short due prints = (short, record { judgement = Yes lines; due = due; ends = refl; prints = prints })
judged bytes (Not place rule) text short due prints = (short, record { judgement = Not place rule; due = due; ends = refl; prints = prints })

-- the line of an error is that of a refusal with its cause
pub case_refusal : (bytes : List ℕ) (error : PlanError) (text : List ℕ) → IsCaseCause bytes error → IsRefusalOf error text → IsCaseRefusal bytes text
case_refusal bytes (Bad kind path detail at) text cause says = record { kind = kind; path = path; detail = detail; at = at; cause = cause; prints = says }
case_refusal bytes NoMemory text cause says = absurd says

-- ---- each status

verdict : (bytes : List ℕ) (status : Status) (text : List ℕ) → IsAuditDue bytes status text → IsVerdict status
verdict bytes Done text due = tt
verdict bytes No text due = tt
verdict bytes BadInput text due = tt
verdict bytes Limit text due = tt
verdict bytes Usage text due = due
verdict bytes ReadFault text due = due
verdict bytes WriteFault text due = due
verdict bytes OutOfMemory text due = due

does : (bytes : List ℕ) (status : Status) (text : List ℕ) → IsAuditDue bytes status text → length bytes ≤ document_limit → JudgesOn bytes status
does bytes Done text due short case = tt
does bytes No text due short case = tt
does bytes BadInput text due short case =
    let refusal = due.1 in absurd (case_no_cause bytes case.0 case.1 case.2 refusal.kind refusal.path refusal.detail refusal.at case.3 refusal.cause)
does bytes Limit text due short case = absurd (omega (arith, short, due.0))
does bytes Usage text due short case = due
does bytes ReadFault text due short case = due
does bytes WriteFault text due short case = due
does bytes OutOfMemory text due short case = tt

-- a case is judged, unless memory runs out
pub audit_told : IsTold IsAuditDue JudgesOn
audit_told = record { verdict = verdict; does = does; no_memory = λ bytes case. tt }
