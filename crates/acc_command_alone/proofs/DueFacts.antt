-- How the run of a plan ends, of the document that says it.
use Rattle.std.proofs.Common.{◌≡◌, ◌≤◌, ℕ, Bool, IsTrue, List, [], length, inr, Result, Ok, Err, ◌∙◌, ap}
use Rattle.std.specs.Prelude.{IfOk}
use Rattle.acc_ports.specs.declared.disk.Disk.{Ghosts}
use Rattle.acc_command_alone.specs.declared.reply.Reply.{Reply}
use Rattle.acc_message.specs.declared.error.Which.{Which}
use Rattle.acc_message.specs.declared.item.Item.{Item}
use Rattle.acc_schedule.specs.Content.{Content}
use Rattle.acc_schedule.specs.Document.{Means}
use Rattle.acc_schedule_runs.specs.Schedules.{cluster_of}
use Rattle.acc_schedule_runs.specs.Limits.{IsWithin}
use Rattle.acc_run.specs.Given.{HasStopped}
use Rattle.acc_schedule_runs.specs.StrictFronts.{StrictLimitEnds}
use Rattle.acc_message.specs.Run.{IsRun}
use Rattle.acc_safety.specs.Agreement.{Agreement}
use Rattle.acc_safety.specs.Coverage.{Coverage}
use Rattle.acc_safety.specs.SerialOutcomes.{SerialOutcomes}
use Rattle.acc_report.specs.Report.{report_text}
use Rattle.acc_command_alone.specs.declared.status.Status.{Status}
use Rattle.acc_command_alone.specs.declared.status.Status.TheVariants.{Done, No, Usage, ReadFault, WriteFault, BadInput, Limit, OutOfMemory}
use Rattle.acc_command_alone.specs.declared.words.Command.TheVariants.{Run}
use Rattle.acc_command_alone.specs.Lines.{line, run_limit_text}
use Rattle.acc_command_alone.specs.Ends.{document_limit}
use Rattle.acc_command_alone.specs.Command.{IsDue, Over, OverDisks, PlanEnds, Reports, TellsLimit}

pub plan_due : (over : Over) (bytes : List ℕ) (plan : Content) (status : Status) (text : List ℕ) → length bytes ≤ document_limit → Means bytes plan
    → PlanEnds over plan status text → IsDue over Run bytes status text
plan_due over bytes plan Done text short says ends = (short, record { plan = plan; says = says; reports = ends })
plan_due over bytes plan Limit text short says ends = inr (short, record { plan = plan; says = says; tells = ends })
plan_due over bytes plan No text short says ends = ends
plan_due over bytes plan Usage text short says ends = ends
plan_due over bytes plan ReadFault text short says ends = ends
plan_due over bytes plan WriteFault text short says ends = ends
plan_due over bytes plan BadInput text short says ends = absurd ends
plan_due over bytes plan OutOfMemory text short says ends = ends

pub run_due : {E : Type 0} (over : Over) (bytes : List ℕ) (plan : Content) (result : Result Reply E) → length bytes ≤ document_limit → Means bytes plan
    → IfOk result (λ reply. PlanEnds over plan reply.status reply.text) → IfOk result (λ reply. IsDue over Run bytes reply.status reply.text)
run_due over bytes plan (Ok reply) short says ends = plan_due over bytes plan reply.status reply.text short says ends
run_due over bytes plan (Err error) short says ends = tt

-- the items are a run in which the promises hold
pub record IsSafe (plan : Content) (items : List Item) : Type 0 where
  pub run : IsRun (cluster_of plan) items
  pub agreement : Agreement items
  pub coverage : Coverage (cluster_of plan) items
  pub serial : SerialOutcomes (cluster_of plan) items

pub reported : (over : Over) (plan : Content) (items : List Item) (text : List ℕ) → IsSafe plan items → IsWithin items → over.Items plan items
    → text ≡ report_text plan.print plan.names [] items → Reports over plan text
reported over plan items text safe within also prints = record {
  items = items;
  run = safe.run;
  agreement = safe.agreement;
  coverage = safe.coverage;
  serial = safe.serial;
  within = within;
  also = also;
  prints = prints;
}

-- ---- limits

pub told : (over : Over) (plan : Content) (items : List Item) (which : Which) (number : ℕ) (text : List ℕ) → over.Limits plan items which number
    → text ≡ line (run_limit_text which number) → TellsLimit over plan text
told over plan items which number text also prints = record { items = items; which = which; number = number; also = also; prints = prints }

pub limited : {D : Type 0} (port : Ghosts D) (strict : Bool) (before after : List (ℕ × D)) (plan : Content) (which : Which) (number : ℕ) (text : List ℕ)
    → (items : List Item) × HasStopped port plan items which number before after × (IsTrue strict → StrictLimitEnds plan items which number)
    → text ≡ line (run_limit_text which number) → TellsLimit (OverDisks port strict before after) plan text
limited port strict before after plan which number text stopped prints =
    told (OverDisks port strict before after) plan stopped.0 which number text (stopped.1, stopped.2) prints

pub same_limit : (which other : Which) (number other_number : ℕ) (text : List ℕ) → text ≡ line (run_limit_text which number) → which ≡ other → number ≡ other_number
    → text ≡ line (run_limit_text other other_number)
same_limit which other number other_number text prints same same_number =
    prints ∙ ap (λ quantity. line (run_limit_text quantity number)) same ∙ ap (λ most. line (run_limit_text other most)) same_number
