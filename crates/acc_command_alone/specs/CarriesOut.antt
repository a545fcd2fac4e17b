-- What a command line does, for every list of words and every document.
use Rattle.std.specs.Prelude.{◌≡◌, ◌≢◌, ◌≤◌, ℕ, Bool, List, length}
use Rattle.acc_ports.specs.declared.disk.Disk.{Ghosts}
use Rattle.acc_ports.specs.Faults.{Rose}
use Rattle.acc_schedule.specs.Content.{Content}
use Rattle.acc_schedule.specs.Document.{Means}
use Rattle.acc_command_alone.specs.declared.words.Command.TheVariants.{Run, Check}
use Rattle.acc_command_alone.specs.declared.status.Status.{Status}
use Rattle.acc_command_alone.specs.declared.status.Status.TheVariants.{Usage, ReadFault}
use Rattle.acc_command_alone.specs.Words.{AsksForWorkers, IsAuditLine, IsCheckLine, IsGenerateLine, IsGlanceLine, IsHealLine, IsLeaveLine, IsLine, IsResumeLine, IsRunLine, ReadsDocument, RunsDocument}
use Rattle.acc_command_alone.specs.Streams.{Streams}
use Rattle.acc_command_alone.specs.Ends.{document_limit, Ends, EndsOnSome, Leaves, TellsFaults, WithoutFaults}
use Rattle.acc_command_alone.specs.Command.{EndsOnGiven, IsDone, IsGenerated, IsMade, IsUsage, no_run, Over, OverDisks}
use Rattle.acc_command_alone.specs.Glancing.{HasLooks, IsGlanceDue, Sees, SeesOver}
use Rattle.acc_command_alone.specs.Healing.{OverHealing}
use Rattle.acc_command_alone.specs.Judging.{IsAnswered, IsAuditDue, IsCase}
use Rattle.acc_command_alone.specs.Leaving.{IsLeaveDue}
use Rattle.acc_command_alone.specs.Resuming.{HasJournals, IsResumeDue}

-- what each command is over that runs a document, and what looks see over such a run as that of `run`
pub record Overs : Type 1 where
  pub run : Over
  pub heal : Over
  pub free : Over
  pub sees : Sees

-- those that ask for no threads, over these disks
abbrev pub alone_over : {D : Type 0} → Ghosts D → Bool → List (ℕ × D) → List (ℕ × D) → Overs
alone_over port strict before after = record { run = OverDisks port strict before after; heal = OverHealing port strict before after; free = no_run; sees = SeesOver port strict before after }

-- What is written, what is left of the source, and the status. What `run` reports is a run that obeys the schedule, what `heal` reports
-- one with its healing, and what `free` reports one in which every actor took its turns, in all of which agreement, coverage and serial
-- outcomes hold; the disks came back, each keeping its actor in the reported items, and strict ones leave no choice of items to `run` and
-- `heal`. What `glance` reports is a run as that of `run`, with what its looks have seen. What `leave` writes is the document with the journals
-- of such a run, and what `resume` reports are the items that such steps add to whatever run left the journals.
pub record CarriesOut (words : List (List ℕ)) (over : Overs) (before after : Streams) (status : Status) : Type 0 where
  pub usage : ¬ (IsLine words) → Ends IsUsage status before.written after.written
  pub run : IsRunLine words → EndsOnGiven over.run Run before after status
  pub heal : IsHealLine words → EndsOnGiven over.heal Run before after status
  pub leave : IsLeaveLine words → EndsOnSome (IsLeaveDue over.run) before after status
  pub resume : IsResumeLine words → EndsOnSome IsResumeDue before after status
  pub free : AsksForWorkers words → EndsOnGiven over.free Run before after status
  pub audit : IsAuditLine words → EndsOnSome IsAuditDue before after status
  pub glance : IsGlanceLine words → EndsOnSome (IsGlanceDue over.run over.sees) before after status
  pub check : IsCheckLine words → EndsOnGiven no_run Check before after status
  pub generate : (seed txns : ℕ) → IsGenerateLine words seed txns → Ends (IsGenerated seed txns) status before.written after.written
  -- When each of the answers comes that tell of a port.
  pub usage_only : status ≡ Usage → ¬ (IsLine words)
  pub unread : ¬ (ReadsDocument words) → status ≢ ReadFault
  pub leaves : ReadsDocument words → Leaves status before.left after.left
  pub faults : TellsFaults before after status
  -- Which comes where no port fails.
  pub complete_run : RunsDocument words → WithoutFaults before after (λ bytes. (plan : Content) → Means bytes plan → length bytes ≤ document_limit → IsDone Run status)
  pub complete_check : IsCheckLine words → WithoutFaults before after (λ bytes. (plan : Content) → Means bytes plan → length bytes ≤ document_limit → IsDone Check status)
  pub complete_resume : IsResumeLine words → WithoutFaults before after (λ bytes. HasJournals bytes → length bytes ≤ document_limit → IsDone Run status)
  pub complete_audit : IsAuditLine words → WithoutFaults before after (λ bytes. IsCase bytes → length bytes ≤ document_limit → IsAnswered status)
  pub complete_glance : IsGlanceLine words → WithoutFaults before after (λ bytes. HasLooks bytes → length bytes ≤ document_limit → IsDone Run status)
  pub complete_generate : (seed txns : ℕ) → IsGenerateLine words seed txns → ¬ (Rose before.write_faults after.write_faults) → IsMade status
