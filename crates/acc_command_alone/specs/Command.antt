-- What is due of a command, from its words and the bytes of its document.
use Rattle.std.specs.Prelude.{◌≡◌, ◌⊎◌, ℕ, ◌≤◌, Bool, IsTrue, List, [], length}
use Rattle.acc_ports.specs.declared.disk.Disk.{Ghosts}
use Rattle.acc_message.specs.declared.error.Which.{Which}
use Rattle.acc_message.specs.declared.item.Item.{Item}
use Rattle.acc_message.specs.Run.{IsRun}
use Rattle.acc_safety.specs.Agreement.{Agreement}
use Rattle.acc_safety.specs.Coverage.{Coverage}
use Rattle.acc_safety.specs.SerialOutcomes.{SerialOutcomes}
use Rattle.acc_schedule.specs.declared.error.PlanKind.{PlanKind}
use Rattle.acc_schedule.specs.declared.error.PlanError.TheVariants.{Bad}
use Rattle.acc_schedule.specs.Content.{Content}
use Rattle.acc_schedule.specs.Document.{IsCause, Means}
use Rattle.acc_schedule_runs.specs.Schedules.{cluster_of}
use Rattle.acc_schedule_runs.specs.StrictSchedules.{ObeysStrictly}
use Rattle.acc_schedule_runs.specs.Limits.{IsWithin}
use Rattle.acc_schedule_runs.specs.StrictFronts.{StrictLimitEnds}
use Rattle.acc_report.specs.Report.{report_text}
use Rattle.acc_run.specs.Given.{HasRun, HasStopped}
use Rattle.acc_generator.specs.Document.{document_text}
use Rattle.acc_command_alone.specs.Lines.{line, run_limit_text, ok_text, refusal_text, usage_text}
use Rattle.acc_command_alone.specs.Streams.{Streams}
use Rattle.acc_command_alone.specs.Ends.{document_limit, EndsOnSome}
use Rattle.acc_command_alone.specs.Responds.{IsTooLong}
use Rattle.acc_command_alone.specs.declared.words.Command.{Command}
use Rattle.acc_command_alone.specs.declared.words.Command.TheVariants.{Run, Check}
use Rattle.acc_command_alone.specs.declared.status.Status.{Status}
use Rattle.acc_command_alone.specs.declared.status.Status.TheVariants.{Done, No, Usage, ReadFault, WriteFault, BadInput, Limit, OutOfMemory}

-- ---- what a run is over

-- What else is known of the items of a run, which stand with the newest first, and of those after which a limit ends one.
pub record Over : Type 1 where
  pub Items : Content → List Item → Type 0
  pub Limits : Content → List Item → Which → ℕ → Type 0

-- The items obey the schedule of the plan, with some answers of the disks; these came back, each keeping its actor where these answers led,
-- and strict ones fix the items.
pub record RunsOver {D : Type 0} (port : Ghosts D) (strict : Bool) (before after : List (ℕ × D)) (plan : Content) (items : List Item) : Type 0 where
  pub ran : HasRun port plan items before after
  pub strictly : IsTrue strict → ObeysStrictly plan items

-- The schedule, step by step, over these disks. A limit ends its run after the items with some answers of the disks, which came back, each
-- keeping its actor where these answers led, and over strict disks it alone does.
abbrev pub OverDisks : {D : Type 0} → Ghosts D → Bool → List (ℕ × D) → List (ℕ × D) → Over
OverDisks port strict before after =
    record {
      Items = RunsOver port strict before after;
      Limits = λ plan items which number. HasStopped port plan items which number before after × (IsTrue strict → StrictLimitEnds plan items which number);
    }

-- where nothing is run
abbrev pub no_run : Over
no_run = record { Items = λ plan items. ⊥; Limits = λ plan items which number. ⊥ }

-- ---- the text that is due

-- The report of a plan: of items that are a run of its cluster, made so, that are within the limits, and in which agreement, coverage and
-- serial outcomes hold.
pub record Reports (over : Over) (plan : Content) (text : List ℕ) : Type 0 where
  pub items : List Item
  pub run : IsRun (cluster_of plan) items
  pub agreement : Agreement items
  pub coverage : Coverage (cluster_of plan) items
  pub serial : SerialOutcomes (cluster_of plan) items
  pub within : IsWithin items
  pub also : over.Items plan items
  pub prints : text ≡ report_text plan.print plan.names [] items

-- the report of the plan that a document says
pub record IsReport (over : Over) (bytes text : List ℕ) : Type 0 where
  pub plan : Content
  pub says : Means bytes plan
  pub reports : Reports over plan text

-- the line of the limit that ends the run of a plan
pub record TellsLimit (over : Over) (plan : Content) (text : List ℕ) : Type 0 where
  pub items : List Item
  pub which : Which
  pub number : ℕ
  pub also : over.Limits plan items which number
  pub prints : text ≡ line (run_limit_text which number)

-- the same of the plan that a document says
pub record IsLimited (over : Over) (bytes text : List ℕ) : Type 0 where
  pub plan : Content
  pub says : Means bytes plan
  pub tells : TellsLimit over plan text

-- how the run of a plan ends
abbrev pub PlanEnds : Over → Content → Status → List ℕ → Type 0
PlanEnds over plan Done text = Reports over plan text
PlanEnds over plan Limit text = TellsLimit over plan text
PlanEnds over plan No text = ⊥
PlanEnds over plan Usage text = ⊥
PlanEnds over plan ReadFault text = ⊥
PlanEnds over plan WriteFault text = ⊥
PlanEnds over plan BadInput text = ⊥
PlanEnds over plan OutOfMemory text = ⊥

-- the line of the plan that a document says
pub record IsOk (bytes text : List ℕ) : Type 0 where
  pub plan : Content
  pub says : Means bytes plan
  pub prints : text ≡ line (ok_text plan)

-- the line of the refusal of a document, with its cause
pub record IsRefusal (bytes text : List ℕ) : Type 0 where
  pub kind : PlanKind
  pub path : List ℕ
  pub detail : ℕ
  pub at : ℕ
  pub cause : IsCause bytes (Bad kind path detail at)
  pub prints : text ≡ line (refusal_text kind path detail at)

-- the text of a command on a document that it accepts, and the limits that a command meets besides that of the document
abbrev pub IsText : Over → Command → List ℕ → List ℕ → Type 0
IsText over Run bytes text = IsReport over bytes text
IsText over Check bytes text = IsOk bytes text

abbrev pub IsPastLimit : Over → Command → List ℕ → List ℕ → Type 0
IsPastLimit over Run bytes text = IsLimited over bytes text
IsPastLimit over Check bytes text = ⊥

abbrev pub IsAccepted : List ℕ → Type 0
IsAccepted bytes = (plan : Content) × Means bytes plan

-- the status and the text of a command on a document
abbrev pub IsDue : Over → Command → List ℕ → Status → List ℕ → Type 0
IsDue over command bytes Done text = (length bytes ≤ document_limit) × IsText over command bytes text
IsDue over command bytes BadInput text = (length bytes ≤ document_limit) × IsRefusal bytes text
IsDue over command bytes Limit text = IsTooLong bytes text ⊎ ((length bytes ≤ document_limit) × IsPastLimit over command bytes text)
IsDue over command bytes No text = ⊥
IsDue over command bytes Usage text = ⊥
IsDue over command bytes ReadFault text = ⊥
IsDue over command bytes WriteFault text = ⊥
IsDue over command bytes OutOfMemory text = ⊥

-- it ends as is due on a document that the source gives
abbrev pub EndsOnGiven : Over → Command → Streams → Streams → Status → Type 0
EndsOnGiven over command = EndsOnSome (IsDue over command)

-- the usage line is due for every other list of words
abbrev pub IsUsage : Status → List ℕ → Type 0
IsUsage Usage text = text ≡ line usage_text
IsUsage Done text = ⊥
IsUsage No text = ⊥
IsUsage ReadFault text = ⊥
IsUsage WriteFault text = ⊥
IsUsage BadInput text = ⊥
IsUsage Limit text = ⊥
IsUsage OutOfMemory text = ⊥

-- the document of the seed with so many transactions, and nothing else
abbrev pub IsGenerated : ℕ → ℕ → Status → List ℕ → Type 0
IsGenerated seed txns Done text = text ≡ document_text seed txns
IsGenerated seed txns No text = ⊥
IsGenerated seed txns Usage text = ⊥
IsGenerated seed txns ReadFault text = ⊥
IsGenerated seed txns WriteFault text = ⊥
IsGenerated seed txns BadInput text = ⊥
IsGenerated seed txns Limit text = ⊥
IsGenerated seed txns OutOfMemory text = ⊥

-- the command did its work, unless memory ran out, or the run that it makes met a limit
abbrev pub IsDone : Command → Status → Type 0
IsDone command Done = Unit {0}
IsDone command OutOfMemory = Unit {0}
IsDone Run Limit = Unit {0}
IsDone Check Limit = ⊥
IsDone command No = ⊥
IsDone command Usage = ⊥
IsDone command ReadFault = ⊥
IsDone command WriteFault = ⊥
IsDone command BadInput = ⊥

-- on a document that it accepts
abbrev pub DoesOn : Command → List ℕ → Status → Type 0
DoesOn command bytes status = IsAccepted bytes → IsDone command status

-- the document is made, unless memory ran out
abbrev pub IsMade : Status → Type 0
IsMade Done = Unit {0}
IsMade OutOfMemory = Unit {0}
IsMade No = ⊥
IsMade Usage = ⊥
IsMade ReadFault = ⊥
IsMade WriteFault = ⊥
IsMade BadInput = ⊥
IsMade Limit = ⊥
