-- What the command `glance` answers to a document with looks.
use Rattle.std.proofs.Common.{◌≡◌, ◌≤◌, ℕ, List, [], ◌++◌, length, Result, Ok, Err, inr, refl}
use Rattle.std.specs.Prelude.{IfOk}
use Rattle.acc_base.specs.declared.memory.OutOfMemory.{OutOfMemory as NoMemory}
use Rattle.acc_ports.specs.declared.disk.Disk.{Ghosts}
use Rattle.acc_message.specs.declared.item.Item.{Item}
use Rattle.acc_schedule.specs.declared.error.PlanError.{PlanError}
use Rattle.acc_schedule.specs.declared.error.PlanError.TheVariants.{Bad, OutOfMemory as OutOfPlanMemory}
use Rattle.acc_schedule.specs.Content.{Content}
use Rattle.acc_schedule_runs.specs.StrictSchedules.{ObeysStrictly}
use Rattle.acc_schedule_runs.specs.Limits.{IsWithin}
use Rattle.acc_run.specs.Given.{HasRun}
use Rattle.acc_report.specs.Report.{report_text}
use Rattle.acc_glance.specs.declared.looks.Look.{Look}
use Rattle.acc_glance.specs.declared.seen.Seen.{Seen}
use Rattle.acc_glance.specs.Documents.{IsLooksCause, MeansLooks}
use Rattle.acc_glance.specs.Runs.{AreSeenStrictly, HasRunWithLooks}
use Rattle.acc_glance.specs.Texts.{seens_text}
use Rattle.acc_glance.proofs.LookFacts.{says_no_fault}
use Rattle.acc_command_alone.specs.declared.reply.Reply.{Reply}
use Rattle.acc_command_alone.specs.declared.status.Status.{Status}
use Rattle.acc_command_alone.specs.declared.status.Status.TheVariants.{Done, No, Usage, ReadFault, WriteFault, BadInput, Limit, OutOfMemory}
use Rattle.acc_command_alone.specs.Ends.{document_limit}
use Rattle.acc_command_alone.specs.Responds.{IsVerdict}
use Rattle.acc_command_alone.specs.Lines.{IsRefusalOf}
use Rattle.acc_command_alone.specs.Command.{Over}
use Rattle.acc_command_alone.specs.Glancing.{IsGlanceDue, IsLooksRefusal, LooksEnd, LooksOn, ReportsLooks, Sees}
use Rattle.acc_command_alone.proofs.DueFacts.{IsSafe}
use Rattle.acc_command_alone.proofs.RespondFacts.{IsTold}

-- ---- a run with looks is a run

pub ran_alone : {D : Type 0} (port : Ghosts D) (plan : Content) (looks : List Look) (items : List Item) (seens : List Seen) (before after : List (ℕ × D))
    → HasRunWithLooks port plan looks items seens before after → HasRun port plan items before after
ran_alone port plan looks items seens before after h =
    record { answers = h.answers; obeys = record { last = h.last; follows = h.seen.follows; items_are = h.items_are }; back = h.back }

pub obeys_alone : (plan : Content) (looks : List Look) (items : List Item) (seens : List Seen) → AreSeenStrictly plan looks items seens → ObeysStrictly plan items
obeys_alone plan looks items seens h = record { last = h.last; follows = h.seen.follows; items_are = h.items_are }

-- ---- the text

-- the line of an error is that of a refusal with its cause
pub looks_refusal : (bytes : List ℕ) (error : PlanError) (text : List ℕ) → IsLooksCause bytes error → IsRefusalOf error text → IsLooksRefusal bytes text
looks_refusal bytes (Bad kind path detail at) text cause says = record { kind = kind; path = path; detail = detail; at = at; cause = cause; prints = says }
looks_refusal bytes OutOfPlanMemory text cause says = absurd says

module _ (over : Over) (sees : Sees) where
  looks_due : (bytes : List ℕ) (plan : Content) (looks : List Look) (status : Status) (text : List ℕ) → length bytes ≤ document_limit → MeansLooks bytes plan looks
      → LooksEnd over sees plan looks status text → IsGlanceDue over sees bytes status text
  looks_due bytes plan looks Done text short says ends = (short, record { plan = plan; looks = looks; says = says; ends = ends })
  looks_due bytes plan looks Limit text short says ends = inr (short, record { plan = plan; looks = looks; says = says; ends = ends })
  looks_due bytes plan looks No text short says ends = ends
  looks_due bytes plan looks Usage text short says ends = ends
  looks_due bytes plan looks ReadFault text short says ends = ends
  looks_due bytes plan looks WriteFault text short says ends = ends
  looks_due bytes plan looks BadInput text short says ends = absurd ends
  looks_due bytes plan looks OutOfMemory text short says ends = ends

  pub glance_due : (bytes : List ℕ) (plan : Content) (looks : List Look) (result : Result Reply NoMemory) → length bytes ≤ document_limit → MeansLooks bytes plan looks
      → IfOk result (λ reply. LooksEnd over sees plan looks reply.status reply.text) → IfOk result (λ reply. IsGlanceDue over sees bytes reply.status reply.text)
  glance_due bytes plan looks (Ok reply) short says ends = looks_due bytes plan looks reply.status reply.text short says ends
  glance_due bytes plan looks (Err error) short says ends = tt

  -- the report of items that are a safe run, and after it what the looks have seen of them
  pub reported_looks : (plan : Content) (looks : List Look) (items : List Item) (seens : List Seen) (text : List ℕ) → IsSafe plan items → IsWithin items → over.Items plan items
      → sees plan looks items seens → text ≡ report_text plan.print plan.names [] items ++ seens_text seens → ReportsLooks over sees plan looks text
  reported_looks plan looks items seens text safe within also saw prints = record {
    report = report_text plan.print plan.names [] items;
    reports = record {
      items = items;
      run = safe.run;
      agreement = safe.agreement;
      coverage = safe.coverage;
      serial = safe.serial;
      within = within;
      also = also;
      prints = refl;
    };
    seens = seens;
    saw = saw;
    prints = prints;
  }

  -- ---- each status

  verdict : (bytes : List ℕ) (status : Status) (text : List ℕ) → IsGlanceDue over sees bytes status text → IsVerdict status
  verdict bytes Done text due = tt
  verdict bytes No text due = tt
  verdict bytes BadInput text due = tt
  verdict bytes Limit text due = tt
  verdict bytes Usage text due = due
  verdict bytes ReadFault text due = due
  verdict bytes WriteFault text due = due
  verdict bytes OutOfMemory text due = due

  does : (bytes : List ℕ) (status : Status) (text : List ℕ) → IsGlanceDue over sees bytes status text → length bytes ≤ document_limit → LooksOn bytes status
  does bytes Done text due short has = tt
  does bytes No text due short has = absurd due
  does bytes BadInput text due short has =
      let refusal = due.1 in absurd (says_no_fault bytes has.0 has.1 refusal.kind refusal.path refusal.detail refusal.at has.2 refusal.cause)
  does bytes Limit text due short has = tt
  does bytes Usage text due short has = absurd due
  does bytes ReadFault text due short has = absurd due
  does bytes WriteFault text due short has = absurd due
  does bytes OutOfMemory text due short has = tt

  -- the looks are taken, unless memory runs out or the run meets a limit
  pub glance_told : IsTold (IsGlanceDue over sees) LooksOn
  glance_told = record { verdict = verdict; does = does; no_memory = λ bytes has. tt }
