-- What the command `leave` writes and how it ends, from the bytes of a document.
use Rattle.std.specs.Prelude.{◌≡◌, ◌⊎◌, ◌≤◌, ℕ, List, None, length}
use Rattle.serde_json.specs.Data.{Data}
use Rattle.acc_message.specs.declared.item.Item.{Item}
use Rattle.acc_message.specs.Run.{IsRun}
use Rattle.acc_schedule.specs.Content.{Content}
use Rattle.acc_schedule.specs.Document.{document_fault, plan_of, Reads}
use Rattle.acc_schedule.specs.Plan.{IsPlan}
use Rattle.acc_schedule_runs.specs.Schedules.{cluster_of}
use Rattle.acc_schedule_runs.specs.Limits.{IsWithin}
use Rattle.acc_left.specs.Documents.{left_data, IsLine}
use Rattle.acc_left.specs.Leaves.{images_left}
use Rattle.acc_command_alone.specs.Ends.{document_limit}
use Rattle.acc_command_alone.specs.Responds.{IsTooLong}
use Rattle.acc_command_alone.specs.Command.{IsDone, IsRefusal, Over, TellsLimit}
use Rattle.acc_command_alone.specs.declared.words.Command.TheVariants.{Run}
use Rattle.acc_command_alone.specs.declared.status.Status.{Status}
use Rattle.acc_command_alone.specs.declared.status.Status.TheVariants.{Done, No, Usage, ReadFault, WriteFault, BadInput, Limit, OutOfMemory}

-- The document with no step, and with the journals that its actors have after items that are a run of the plan's cluster, made so, and within
-- the limits. What holds of the plan of every document that breaks no rule holds of this one.
pub record HasJournalsOf (over : Over) (plan : Content) (json : Data) (text : List ℕ) : Type 0 where
  pub is_plan : IsPlan plan
  pub items : List Item
  pub run : IsRun (cluster_of plan) items
  pub within : IsWithin items
  pub also : over.Items plan items
  pub prints : IsLine (left_data json (images_left plan items)) text

-- how the run of a plan ends whose document has this JSON: with the document that it leaves, or with the line of the limit that ends it
abbrev pub RunLeaves : Over → Content → Data → Status → List ℕ → Type 0
RunLeaves over plan json Done text = HasJournalsOf over plan json text
RunLeaves over plan json Limit text = TellsLimit over plan text
RunLeaves over plan json No text = ⊥
RunLeaves over plan json Usage text = ⊥
RunLeaves over plan json ReadFault text = ⊥
RunLeaves over plan json WriteFault text = ⊥
RunLeaves over plan json BadInput text = ⊥
RunLeaves over plan json OutOfMemory text = ⊥

-- the bytes are the JSON of a document that breaks no rule, and the run of its plan ends so
pub record EndsLeaving (over : Over) (bytes : List ℕ) (status : Status) (text : List ℕ) : Type 0 where
  pub json : Data
  pub reads : Reads bytes json
  pub keeps_rules : document_fault json ≡ None
  pub ends : RunLeaves over (plan_of json) json status text

-- the status and the text of the command on a document
abbrev pub IsLeaveDue : Over → List ℕ → Status → List ℕ → Type 0
IsLeaveDue over bytes Done text = (length bytes ≤ document_limit) × EndsLeaving over bytes Done text
IsLeaveDue over bytes BadInput text = (length bytes ≤ document_limit) × IsRefusal bytes text
IsLeaveDue over bytes Limit text = IsTooLong bytes text ⊎ ((length bytes ≤ document_limit) × EndsLeaving over bytes Limit text)
IsLeaveDue over bytes No text = ⊥
IsLeaveDue over bytes Usage text = ⊥
IsLeaveDue over bytes ReadFault text = ⊥
IsLeaveDue over bytes WriteFault text = ⊥
IsLeaveDue over bytes OutOfMemory text = ⊥
