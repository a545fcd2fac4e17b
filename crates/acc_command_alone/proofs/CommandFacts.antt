-- The line of a refusal, and when a command is done.
use Rattle.std.proofs.Common.{◌≢◌, ◌≤◌, ℕ, List, length, Option, inl, inr, refl, arith}
use Rattle.acc_schedule.proofs.AnswerFacts.{says_no_fault}
use Rattle.acc_schedule.specs.Document.{IsCause}
use Rattle.acc_schedule.specs.declared.error.PlanError.{PlanError}
use Rattle.acc_schedule.specs.declared.error.PlanError.TheVariants.{Bad, OutOfMemory as NoMemory}
use Rattle.acc_command_alone.specs.declared.status.Status.{Status}
use Rattle.acc_command_alone.specs.declared.status.Status.TheVariants.{Done, No, Usage, ReadFault, WriteFault, BadInput, Limit, OutOfMemory}
use Rattle.acc_command_alone.specs.declared.words.Command.{Command}
use Rattle.acc_command_alone.specs.declared.words.Command.TheVariants.{Run, Check}
use Rattle.acc_command_alone.specs.Ends.{document_limit, Ends}
use Rattle.acc_command_alone.specs.Responds.{IsVerdict}
use Rattle.acc_command_alone.specs.Lines.{IsRefusalOf}
use Rattle.acc_command_alone.specs.Command.{DoesOn, IsAccepted, IsDone, IsDue, IsGenerated, IsMade, IsRefusal, Over}
use Rattle.acc_command_alone.proofs.RespondFacts.{IsTold}

-- the line of an error is that of a refusal with its cause
pub refusal : (bytes : List ℕ) (error : PlanError) (text : List ℕ) → IsCause bytes error → IsRefusalOf error text → IsRefusal bytes text
refusal bytes (Bad kind path detail at) text cause says = record { kind = kind; path = path; detail = detail; at = at; cause = cause; prints = says }
refusal bytes NoMemory text cause says = absurd says

-- ---- documents

-- a document that is accepted isn't refused
pub not_refused : (bytes text : List ℕ) → IsAccepted bytes → IsRefusal bytes text → ⊥
not_refused bytes text accepted refusal = says_no_fault bytes accepted.0 refusal.kind refusal.path refusal.detail refusal.at accepted.1 refusal.cause

limited : (over : Over) (command : Command) (bytes text : List ℕ) → length bytes ≤ document_limit → IsDue over command bytes Limit text → IsDone command Limit
limited over Run bytes text short due = tt
limited over Check bytes text short (inl long) = absurd (omega (arith, short, long.0))
limited over Check bytes text short (inr past) = past.1

module _ (over : Over) (command : Command) where
  verdict : (bytes : List ℕ) (status : Status) (text : List ℕ) → IsDue over command bytes status text → IsVerdict status
  verdict bytes Done text due = tt
  verdict bytes No text due = tt
  verdict bytes BadInput text due = tt
  verdict bytes Limit text due = tt
  verdict bytes Usage text due = due
  verdict bytes ReadFault text due = due
  verdict bytes WriteFault text due = due
  verdict bytes OutOfMemory text due = due

  does : (bytes : List ℕ) (status : Status) (text : List ℕ) → IsDue over command bytes status text → length bytes ≤ document_limit → DoesOn command bytes status
  does bytes Done text due short = λ accepted. tt
  does bytes No text due short = absurd due
  does bytes BadInput text due short = λ accepted. absurd (not_refused bytes text accepted due.1)
  does bytes Limit text due short = λ accepted. limited over command bytes text short due
  does bytes Usage text due short = absurd due
  does bytes ReadFault text due short = absurd due
  does bytes WriteFault text due short = absurd due
  does bytes OutOfMemory text due short = absurd due

  -- the command does its work on it, unless memory runs out or its run meets a limit
  pub due_told : IsTold (IsDue over command) (DoesOn command)
  due_told = record { verdict = verdict; does = does; no_memory = λ bytes accepted. tt }

-- ---- check tells nothing of a run

pub check_due : (one other : Over) (bytes : List ℕ) (status : Status) (text : List ℕ) → IsDue one Check bytes status text → IsDue other Check bytes status text
check_due one other bytes Done text due = due
check_due one other bytes No text due = due
check_due one other bytes Usage text due = due
check_due one other bytes ReadFault text due = due
check_due one other bytes WriteFault text due = due
check_due one other bytes BadInput text due = due
check_due one other bytes Limit text due = due
check_due one other bytes OutOfMemory text due = due

-- ---- a document that is made

-- unless the sink fails or memory runs out
pub makes : (seed txns : ℕ) (result : Status) (old new : Option (List ℕ)) → result ≢ ReadFault → result ≢ WriteFault
    → Ends (IsGenerated seed txns) result old new → IsMade result
makes seed txns Done old new reads writes ends = tt
makes seed txns No old new reads writes ends = ends.1
makes seed txns Usage old new reads writes ends = ends.1
makes seed txns ReadFault old new reads writes ends = absurd (reads refl)
makes seed txns WriteFault old new reads writes ends = absurd (writes refl)
makes seed txns BadInput old new reads writes ends = ends.1
makes seed txns Limit old new reads writes ends = ends.1
makes seed txns OutOfMemory old new reads writes ends = tt
