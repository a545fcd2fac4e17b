-- What the command `resume` answers to a document with journals.
use Rattle.std.proofs.Common.{◌≡◌, ◌≤◌, ℕ, List, length, Result, Ok, Err, inl, inr}
use Rattle.std.specs.Prelude.{IfOk}
use Rattle.acc_base.specs.declared.memory.OutOfMemory.{OutOfMemory as NoMemory}
use Rattle.acc_schedule.specs.declared.error.PlanError.{PlanError}
use Rattle.acc_schedule.specs.declared.error.PlanError.TheVariants.{Bad, OutOfMemory as OutOfPlanMemory}
use Rattle.acc_schedule.specs.Content.{Content}
use Rattle.acc_left.specs.declared.image.Image.{Image}
use Rattle.acc_left.specs.Reading.{IsLeftCause, IsReadLeft, MeansLeft}
use Rattle.acc_command_alone.specs.declared.reply.Reply.{Reply}
use Rattle.acc_command_alone.specs.declared.status.Status.{Status}
use Rattle.acc_command_alone.specs.declared.status.Status.TheVariants.{Done, No, Usage, ReadFault, WriteFault, BadInput, Limit, OutOfMemory}
use Rattle.acc_command_alone.specs.Ends.{document_limit}
use Rattle.acc_command_alone.specs.Responds.{IsTooLong, IsVerdict}
use Rattle.acc_command_alone.specs.Lines.{IsRefusalOf}
use Rattle.acc_command_alone.specs.Resuming.{IsLeftRefusal, IsResumeDue, ResumeEnds, ResumesOn}
use Rattle.acc_command_alone.proofs.RespondFacts.{IsTold}

-- ---- the text

-- the line of an error is that of a refusal with its cause
pub left_refusal : (bytes : List ℕ) (error : PlanError) (text : List ℕ) → IsLeftCause bytes error → IsRefusalOf error text → IsLeftRefusal bytes text
left_refusal bytes (Bad kind path detail at) text cause says = record { kind = kind; path = path; detail = detail; at = at; cause = cause; prints = says }
left_refusal bytes OutOfPlanMemory text cause says = absurd says

resumed_due : (bytes : List ℕ) (plan : Content) (images : List Image) (status : Status) (text : List ℕ) → length bytes ≤ document_limit → MeansLeft bytes plan images
    → ResumeEnds plan images status text → IsResumeDue bytes status text
resumed_due bytes plan images Done text short says ends = (short, record { plan = plan; images = images; says = says; ends = ends })
resumed_due bytes plan images Limit text short says ends = inr (short, record { plan = plan; images = images; says = says; ends = ends })
resumed_due bytes plan images No text short says ends = ends
resumed_due bytes plan images Usage text short says ends = ends
resumed_due bytes plan images ReadFault text short says ends = ends
resumed_due bytes plan images WriteFault text short says ends = ends
resumed_due bytes plan images BadInput text short says ends = absurd ends
resumed_due bytes plan images OutOfMemory text short says ends = ends

pub resume_due : (bytes : List ℕ) (plan : Content) (images : List Image) (result : Result Reply NoMemory) → length bytes ≤ document_limit → MeansLeft bytes plan images
    → IfOk result (λ reply. ResumeEnds plan images reply.status reply.text) → IfOk result (λ reply. IsResumeDue bytes reply.status reply.text)
resume_due bytes plan images (Ok reply) short says ends = resumed_due bytes plan images reply.status reply.text short says ends
resume_due bytes plan images (Err error) short says ends = tt

-- ---- when the work is done

-- with each status that ends the steps of a plan
ended : (bytes : List ℕ) (plan : Content) (images : List Image) (status : Status) (text : List ℕ) → ResumeEnds plan images status text → ResumesOn bytes status
ended bytes plan images Done text ends has = tt
ended bytes plan images Limit text ends has = tt
ended bytes plan images No text ends has = ends
ended bytes plan images Usage text ends has = ends
ended bytes plan images ReadFault text ends has = ends
ended bytes plan images WriteFault text ends has = ends
ended bytes plan images BadInput text ends has = ends
ended bytes plan images OutOfMemory text ends has = absurd ends

pub resume_does : (bytes : List ℕ) (plan : Content) (images : List Image) (result : Result Reply NoMemory)
    → IfOk result (λ reply. ResumeEnds plan images reply.status reply.text) → IfOk result (λ reply. ResumesOn bytes reply.status)
resume_does bytes plan images (Ok reply) ends = ended bytes plan images reply.status reply.text ends
resume_does bytes plan images (Err error) ends = tt

-- bytes that are refused with a line are no document with journals
pub refused_none : (bytes : List ℕ) (error : PlanError) (text : List ℕ) → ((plan : Content) (images : List Image) → MeansLeft bytes plan images → IsReadLeft plan images (Err error))
    → IsRefusalOf error text → ResumesOn bytes BadInput
refused_none bytes (Bad kind path detail at) text reads says has = reads has.0 has.1 has.2
refused_none bytes OutOfPlanMemory text reads says has = absurd says

-- ---- each status

-- what is due, and the work is done with it
abbrev pub IsDueAndDone : List ℕ → Status → List ℕ → Type 0
IsDueAndDone bytes status text = IsResumeDue bytes status text × ResumesOn bytes status

pub due_and_done : (bytes : List ℕ) (result : Result Reply NoMemory) → IfOk result (λ reply. IsResumeDue bytes reply.status reply.text)
    → IfOk result (λ reply. ResumesOn bytes reply.status) → IfOk result (λ reply. IsDueAndDone bytes reply.status reply.text)
due_and_done bytes (Ok reply) due does = (due, does)
due_and_done bytes (Err error) due does = tt

verdict : (bytes : List ℕ) (status : Status) (text : List ℕ) → IsResumeDue bytes status text → IsVerdict status
verdict bytes Done text due = tt
verdict bytes No text due = tt
verdict bytes BadInput text due = tt
verdict bytes Limit text due = tt
verdict bytes Usage text due = due
verdict bytes ReadFault text due = due
verdict bytes WriteFault text due = due
verdict bytes OutOfMemory text due = due

-- the steps are taken, unless memory runs out or they meet a limit
pub resume_told : IsTold IsDueAndDone ResumesOn
resume_told = record {
  verdict = λ bytes status text due. verdict bytes status text due.0;
  does = λ bytes status text due short. due.1;
  no_memory = λ bytes has. tt;
}
