-- What the command `audit` writes and how it ends, from the bytes of its case.
use Rattle.std.specs.Prelude.{◌≡◌, ◌≤◌, ℕ, List, ◌++◌, length, codes, decimal}
use Rattle.acc_txn.specs.declared.parts.BodyParts.{BodyParts}
use Rattle.acc_report_line.specs.declared.line.Line.{Line}
use Rattle.acc_schedule.specs.declared.error.PlanKind.{PlanKind}
use Rattle.acc_schedule.specs.declared.error.PlanError.TheVariants.{Bad}
use Rattle.acc_audit.specs.declared.judgement.Judgement.{Judgement}
use Rattle.acc_audit.specs.declared.judgement.Judgement.TheVariants.{Yes, No as Not}
use Rattle.acc_audit.specs.Cases.{IsCaseCause, IsDueOn, MeansCase}
use Rattle.acc_command_alone.specs.Lines.{line, refusal_text}
use Rattle.acc_command_alone.specs.Ends.{document_limit}
use Rattle.acc_command_alone.specs.Responds.{IsTooLong}
use Rattle.acc_command_alone.specs.declared.status.Status.{Status}
use Rattle.acc_command_alone.specs.declared.status.Status.TheVariants.{Done, No, Usage, ReadFault, WriteFault, BadInput, Limit, OutOfMemory}

-- ---- the text that is due

abbrev pub judgement_text : Judgement → List ℕ
judgement_text (Yes lines) = codes "yes lines=" ++ decimal lines
judgement_text (Not place rule) = codes "no " ++ decimal place ++ codes " " ++ decimal rule

abbrev pub status_of : Judgement → Status
status_of (Yes lines) = Done
status_of (Not place rule) = No

-- the line of what is said of a case that ends with this status
pub record IsJudgement (bytes : List ℕ) (status : Status) (text : List ℕ) : Type 0 where
  pub judgement : Judgement
  pub due : IsDueOn bytes judgement
  pub ends : status ≡ status_of judgement
  pub prints : text ≡ line (judgement_text judgement)

-- the line of the refusal of a case, with its cause
pub record IsCaseRefusal (bytes text : List ℕ) : Type 0 where
  pub kind : PlanKind
  pub path : List ℕ
  pub detail : ℕ
  pub at : ℕ
  pub cause : IsCaseCause bytes (Bad kind path detail at)
  pub prints : text ≡ line (refusal_text kind path detail at)

-- the status and the text of the command on a case
abbrev pub IsAuditDue : List ℕ → Status → List ℕ → Type 0
IsAuditDue bytes Done text = (length bytes ≤ document_limit) × IsJudgement bytes Done text
IsAuditDue bytes No text = (length bytes ≤ document_limit) × IsJudgement bytes No text
IsAuditDue bytes BadInput text = (length bytes ≤ document_limit) × IsCaseRefusal bytes text
IsAuditDue bytes Limit text = IsTooLong bytes text
IsAuditDue bytes Usage text = ⊥
IsAuditDue bytes ReadFault text = ⊥
IsAuditDue bytes WriteFault text = ⊥
IsAuditDue bytes OutOfMemory text = ⊥

-- the bytes are a case that breaks no rule of cases
abbrev pub IsCase : List ℕ → Type 0
IsCase bytes = (names : List (List ℕ)) × (bodies : List BodyParts) × (lines : List Line) × MeansCase bytes names bodies lines

-- a case was judged, unless memory ran out
abbrev pub IsAnswered : Status → Type 0
IsAnswered Done = Unit {0}
IsAnswered No = Unit {0}
IsAnswered OutOfMemory = Unit {0}
IsAnswered Usage = ⊥
IsAnswered ReadFault = ⊥
IsAnswered WriteFault = ⊥
IsAnswered BadInput = ⊥
IsAnswered Limit = ⊥

-- on bytes that are a case
abbrev pub JudgesOn : List ℕ → Status → Type 0
JudgesOn bytes status = IsCase bytes → IsAnswered status
