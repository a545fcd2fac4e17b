-- What the command `resume` writes and how it ends, from the bytes of a document with journals.
use Rattle.std.specs.Prelude.{◌≡◌, ◌⊎◌, ◌≤◌, ℕ, List, length}
use Rattle.acc_stamp.specs.declared.stamps.TxnId.{TxnId}
use Rattle.acc_message.specs.declared.error.Which.{Which}
use Rattle.acc_message.specs.declared.item.Item.{Item}
use Rattle.acc_schedule.specs.declared.error.PlanKind.{PlanKind}
use Rattle.acc_schedule.specs.declared.error.PlanError.TheVariants.{Bad}
use Rattle.acc_schedule.specs.Content.{Content}
use Rattle.acc_report.specs.Report.{report_text}
use Rattle.acc_left.specs.declared.image.Image.{Image}
use Rattle.acc_left.specs.Reading.{IsLeftCause, MeansLeft}
use Rattle.acc_left.specs.Rolls.{IsRoll}
use Rattle.acc_resume.specs.Resumed.{ALimitEndsAfter, GoesOnTo, OfEachRun}
use Rattle.acc_command_alone.specs.Lines.{line, refusal_text, run_limit_text}
use Rattle.acc_command_alone.specs.Ends.{document_limit}
use Rattle.acc_command_alone.specs.Responds.{IsTooLong}
use Rattle.acc_command_alone.specs.Command.{IsDone}
use Rattle.acc_command_alone.specs.declared.words.Command.TheVariants.{Run}
use Rattle.acc_command_alone.specs.declared.status.Status.{Status}
use Rattle.acc_command_alone.specs.declared.status.Status.TheVariants.{Done, No, Usage, ReadFault, WriteFault, BadInput, Limit, OutOfMemory}

-- ---- the text that is due

-- The report of a plan with journals, which calls transactions by the names of the ids that the journals begin. After each run that left the
-- journals its items are those of the plan's steps, and both are one safe run.
pub record ReportsResumed (plan : Content) (images : List Image) (text : List ℕ) : Type 0 where
  pub items : List Item
  pub goes_on : OfEachRun plan images (λ earlier. GoesOnTo plan earlier items)
  pub roll : List (TxnId × ℕ)
  pub lists : IsRoll plan images roll
  pub prints : text ≡ report_text plan.print plan.names roll items

-- the line of a limit, which ends the plan's steps after each run that left the journals
pub record LimitsResumed (plan : Content) (images : List Image) (text : List ℕ) : Type 0 where
  pub which : Which
  pub number : ℕ
  pub ends : OfEachRun plan images (λ earlier. ALimitEndsAfter plan earlier which number)
  pub prints : text ≡ line (run_limit_text which number)

-- how a plan with journals ends
abbrev pub ResumeEnds : Content → List Image → Status → List ℕ → Type 0
ResumeEnds plan images Done text = ReportsResumed plan images text
ResumeEnds plan images Limit text = LimitsResumed plan images text
ResumeEnds plan images No text = ⊥
ResumeEnds plan images Usage text = ⊥
ResumeEnds plan images ReadFault text = ⊥
ResumeEnds plan images WriteFault text = ⊥
ResumeEnds plan images BadInput text = ⊥
ResumeEnds plan images OutOfMemory text = ⊥

-- the plan and the journals that a document says end so
pub record EndsResumed (bytes : List ℕ) (status : Status) (text : List ℕ) : Type 0 where
  pub plan : Content
  pub images : List Image
  pub says : MeansLeft bytes plan images
  pub ends : ResumeEnds plan images status text

-- the line of the refusal of a document, with its cause
pub record IsLeftRefusal (bytes text : List ℕ) : Type 0 where
  pub kind : PlanKind
  pub path : List ℕ
  pub detail : ℕ
  pub at : ℕ
  pub cause : IsLeftCause bytes (Bad kind path detail at)
  pub prints : text ≡ line (refusal_text kind path detail at)

-- the status and the text of the command on a document
abbrev pub IsResumeDue : List ℕ → Status → List ℕ → Type 0
IsResumeDue bytes Done text = (length bytes ≤ document_limit) × EndsResumed bytes Done text
IsResumeDue bytes BadInput text = (length bytes ≤ document_limit) × IsLeftRefusal bytes text
IsResumeDue bytes Limit text = IsTooLong bytes text ⊎ ((length bytes ≤ document_limit) × EndsResumed bytes Limit text)
IsResumeDue bytes No text = ⊥
IsResumeDue bytes Usage text = ⊥
IsResumeDue bytes ReadFault text = ⊥
IsResumeDue bytes WriteFault text = ⊥
IsResumeDue bytes OutOfMemory text = ⊥

-- the bytes are a document with journals that breaks no rule
abbrev pub HasJournals : List ℕ → Type 0
HasJournals bytes = (plan : Content) × (images : List Image) × MeansLeft bytes plan images

-- on such bytes the steps are taken, unless memory runs out, or they meet a limit
abbrev pub ResumesOn : List ℕ → Status → Type 0
ResumesOn bytes status = HasJournals bytes → IsDone Run status
