-- What the command `leave` answers to a document.
use Rattle.std.proofs.Common.{◌≡◌, ◌≤◌, ℕ, List, length, Some, Result, Ok, Err, inl, inr, sym, subst}
use Rattle.std.specs.Prelude.{None, IfOk}
use Rattle.serde_json.specs.Data.{Data}
use Rattle.acc_base.specs.declared.memory.OutOfMemory.{OutOfMemory as NoMemory}
use Rattle.acc_message.specs.declared.message.Message.{Message}
use Rattle.acc_message.specs.declared.item.Item.{Item}
use Rattle.acc_message.specs.Items.{message_at, sent_of}
use Rattle.acc_message.specs.Run.{IsRun}
use Rattle.acc_message_code.specs.Short.{IsShortMessage}
use Rattle.acc_safety.specs.Histories.{Sending}
use Rattle.acc_safety.specs.Valid.{IsStanding, IsValidCluster}
use Rattle.acc_safety.proofs.Bridge.{sent_is_sending}
use Rattle.acc_run_laws.specs.Sends.{HasFewBodies}
use Rattle.acc_run_laws.proofs.RunBounds.{get_is_in}
use Rattle.acc_schedule.specs.declared.error.PlanError.{PlanError}
use Rattle.acc_schedule.specs.declared.error.PlanError.TheVariants.{Bad, OutOfMemory as OutOfPlanMemory}
use Rattle.acc_schedule.specs.Content.{Content}
use Rattle.acc_schedule.specs.Document.{document_fault, plan_of, IsCause, IsUnread, Reads}
use Rattle.acc_schedule.specs.Faults.{IsFault}
use Rattle.acc_schedule.specs.Plan.{IsPlan}
use Rattle.acc_schedule_runs.specs.Schedules.{cluster_of}
use Rattle.acc_schedule_runs.specs.Limits.{IsWithin}
use Rattle.acc_left.specs.Documents.{left_data, IsLine}
use Rattle.acc_left.specs.Leaves.{images_left}
use Rattle.acc_command_alone.specs.declared.reply.Reply.{Reply}
use Rattle.acc_command_alone.specs.declared.status.Status.{Status}
use Rattle.acc_command_alone.specs.declared.status.Status.TheVariants.{Done, No, Usage, ReadFault, WriteFault, BadInput, Limit, OutOfMemory}
use Rattle.acc_command_alone.specs.declared.words.Command.TheVariants.{Run}
use Rattle.acc_command_alone.specs.Ends.{document_limit}
use Rattle.acc_command_alone.specs.Responds.{IsVerdict}
use Rattle.acc_command_alone.specs.Command.{DoesOn, Over}
use Rattle.acc_command_alone.specs.Leaving.{HasJournalsOf, IsLeaveDue, RunLeaves}
use Rattle.acc_command_alone.proofs.CommandFacts.{not_refused}
use Rattle.acc_command_alone.proofs.RespondFacts.{IsTold}

-- ---- what is read

-- bytes that give no data are no document
pub unread_cause : (bytes : List ℕ) (error : PlanError) → IsUnread bytes error → IsCause bytes error
unread_cause bytes OutOfPlanMemory unread = tt
unread_cause bytes (Bad kind path detail at) unread = inl unread

-- data that break a rule are no document
pub fault_cause : (bytes : List ℕ) (json : Data) (error : PlanError) → Reads bytes json → IsFault (document_fault json) error → IsCause bytes error
fault_cause bytes json OutOfPlanMemory reads first = tt
fault_cause bytes json (Bad kind path detail at) reads first = inr (record { utf8 = reads.utf8; json = json; reads = reads.reads; first = first })

-- ---- what is written

-- each message of the run fits the format of journals
pub are_short : (plan : Content) (items : List Item) → ((m : Message) → IsStanding (cluster_of plan) items → HasFewBodies (cluster_of plan) → Sending items m → IsShortMessage m)
    → IsValidCluster (cluster_of plan) → HasFewBodies (cluster_of plan) → IsRun (cluster_of plan) items → (number : ℕ) (m : Message) → message_at items number ≡ Some m
    → IsShortMessage m
are_short plan items law valid few run number m found =
    law m (record { valid = valid; stands = run.stands }) few (sent_is_sending items m (get_is_in (sent_of items) number m found))

module _ (over : Over) where
  -- the document with the journals of a run
  pub left : (plan : Content) (json : Data) (items : List Item) (text : List ℕ) → IsPlan plan → IsRun (cluster_of plan) items → IsWithin items
      → over.Items plan items → IsLine (left_data json (images_left plan items)) text → HasJournalsOf over plan json text
  left plan json items text is run within also prints = record { is_plan = is; items = items; run = run; within = within; also = also; prints = prints }

  leaving_due : (bytes : List ℕ) (json : Data) (status : Status) (text : List ℕ) → length bytes ≤ document_limit → Reads bytes json → document_fault json ≡ None
      → RunLeaves over (plan_of json) json status text → IsLeaveDue over bytes status text
  leaving_due bytes json Done text short reads keeps ends = (short, record { json = json; reads = reads; keeps_rules = keeps; ends = ends })
  leaving_due bytes json Limit text short reads keeps ends = inr (short, record { json = json; reads = reads; keeps_rules = keeps; ends = ends })
  leaving_due bytes json No text short reads keeps ends = ends
  leaving_due bytes json Usage text short reads keeps ends = ends
  leaving_due bytes json ReadFault text short reads keeps ends = ends
  leaving_due bytes json WriteFault text short reads keeps ends = ends
  leaving_due bytes json BadInput text short reads keeps ends = absurd ends
  leaving_due bytes json OutOfMemory text short reads keeps ends = ends

  pub leave_due : (bytes : List ℕ) (json : Data) (plan : Content) (result : Result Reply NoMemory) → length bytes ≤ document_limit → Reads bytes json → document_fault json ≡ None
      → plan ≡ plan_of json → IfOk result (λ reply. RunLeaves over plan json reply.status reply.text) → IfOk result (λ reply. IsLeaveDue over bytes reply.status reply.text)
  leave_due bytes json plan (Ok reply) short reads keeps says ends =
      leaving_due bytes json reply.status reply.text short reads keeps (subst (λ (p : Content). RunLeaves over p json reply.status reply.text) says ends)
  leave_due bytes json plan (Err error) short reads keeps says ends = tt

  -- ---- each status

  verdict : (bytes : List ℕ) (status : Status) (text : List ℕ) → IsLeaveDue over bytes status text → IsVerdict status
  verdict bytes Done text due = tt
  verdict bytes No text due = tt
  verdict bytes BadInput text due = tt
  verdict bytes Limit text due = tt
  verdict bytes Usage text due = due
  verdict bytes ReadFault text due = due
  verdict bytes WriteFault text due = due
  verdict bytes OutOfMemory text due = due

  does : (bytes : List ℕ) (status : Status) (text : List ℕ) → IsLeaveDue over bytes status text → length bytes ≤ document_limit → DoesOn Run bytes status
  does bytes Done text due short accepted = tt
  does bytes No text due short accepted = absurd due
  does bytes BadInput text due short accepted = absurd (not_refused bytes text accepted due.1)
  does bytes Limit text due short accepted = tt
  does bytes Usage text due short accepted = absurd due
  does bytes ReadFault text due short accepted = absurd due
  does bytes WriteFault text due short accepted = absurd due
  does bytes OutOfMemory text due short accepted = absurd due

  -- the run is made and its document written, unless memory runs out or it meets a limit
  pub leave_told : IsTold (IsLeaveDue over) (DoesOn Run)
  leave_told = record { verdict = verdict; does = does; no_memory = λ bytes accepted. tt }
