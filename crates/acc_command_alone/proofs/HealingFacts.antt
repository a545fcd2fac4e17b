-- What strict disks fix of a healing, the line of a limit that ends one, and the lines of its report.
use Rattle.std.proofs.Common.{◌≡◌, ℕ, Bool, true, false, IsTrue, List, [], refl, sym, ◌∙◌, ap, subst}
use Rattle.std.proofs.lemmas.Bool.{true≢false}
use Rattle.acc_ports.specs.declared.disk.Disk.{Ghosts}
use Rattle.acc_message.specs.declared.error.Which.{Which}
use Rattle.acc_message.specs.declared.item.Item.{Item}
use Rattle.acc_schedule.specs.Content.{Content}
use Rattle.acc_schedule.specs.Document.{Means}
use Rattle.acc_schedule.specs.declared.plan.Print.{Print}
use Rattle.acc_schedule.specs.declared.plan.Print.TheVariants.{Lines}
use Rattle.acc_schedule.proofs.AnswerFacts.{same_plan}
use Rattle.acc_schedule_runs.specs.Schedules.{cluster_of}
use Rattle.acc_report_line.specs.declared.line.Line.{Line}
use Rattle.acc_report_line.specs.Texts.{lines_text}
use Rattle.acc_report.specs.Report.{lines_report, report_text}
use Rattle.acc_schedule_runs.specs.Moves.{Answers}
use Rattle.acc_schedule_runs.specs.StrictMoves.{StrictSituation}
use Rattle.acc_schedule_runs.specs.Limits.{IsWithin}
use Rattle.acc_heal_laws.specs.Laws.{OneStrictHealing}
use Rattle.acc_heal_laws.specs.FrontLaws.{LimitOrStrictlyHealed}
use Rattle.acc_heal.specs.Healed.{HealsStrictlyTo}
use Rattle.acc_heal_laws.specs.HealingFronts.{LimitEndsWithHealing, StrictLimitEndsWithHealing}
use Rattle.acc_command_alone.specs.Lines.{line, run_limit_text}
use Rattle.acc_command_alone.specs.Command.{IsReport, TellsLimit}
use Rattle.acc_command_alone.specs.Finished.{FinishesBegins}
use Rattle.acc_command_alone.specs.Healing.{OverHealing}
use Rattle.acc_command_alone.proofs.DueFacts.{told}
use Rattle.acc_command_alone.proofs.FinishedReports.{finishes}

-- ---- what strict disks fix

pub one_healed : OneStrictHealing → (plan : Content) (one other : List Item) → HealsStrictlyTo plan one → HealsStrictlyTo plan other → one ≡ other
one_healed law plan one other a b =
    let same = law plan a.steps b.steps a.between b.between a.last b.last a.healing b.healing in
    a.items_are ∙ ap (λ (s : StrictSituation). s.found.own) same.2 ∙ sym b.items_are

pub healed_or_stopped : LimitOrStrictlyHealed → (plan : Content) (items front : List Item) (which : Which) (number : ℕ) → HealsStrictlyTo plan items → IsWithin items
    → StrictLimitEndsWithHealing plan front which number → ⊥
healed_or_stopped law plan items front which number a within ends =
    (law plan a.steps a.between a.last a.healing).not_both front which number (subst IsWithin a.items_are within) ends

-- ---- limits

-- over strict disks the front is the one that the plan fixes
pub limit_told : {D : Type 0} (port : Ghosts D) (strict : Bool) (before after : List (ℕ × D)) (plan : Content) (which : Which) (number : ℕ) (text : List ℕ)
    → ((items : List Item) (which : Which) (number : ℕ) → StrictLimitEndsWithHealing plan items which number
    → (answers : Answers) × LimitEndsWithHealing plan answers items which number)
    → (answers : Answers) × (items : List Item) × LimitEndsWithHealing plan answers items which number
    → (IsTrue strict → (items : List Item) × StrictLimitEndsWithHealing plan items which number)
    → text ≡ line (run_limit_text which number) → TellsLimit (OverHealing port strict before after) plan text
limit_told port true before after plan which number text answered general strictly prints =
    let front = strictly refl in
    let some = answered front.0 which number front.1 in
    told (OverHealing port true before after) plan front.0 which number text (record { answers = some.0; ends = some.1; strictly = λ _. front.1 }) prints
limit_told port false before after plan which number text answered general strictly prints =
    told (OverHealing port false before after) plan general.1 which number text
    (record { answers = general.0; ends = general.2; strictly = λ is. absurd (true≢false (sym is)) }) prints

-- ---- lines

-- over strict disks all is healed, and the report in lines says so
pub finished_lines : {D : Type 0} (port : Ghosts D) (before after : List (ℕ × D)) (bytes text : List ℕ) (plan : Content) → Means bytes plan → plan.print ≡ Lines
    → IsReport (OverHealing port true before after) bytes text → (lines : List Line) × (text ≡ lines_text lines) × FinishesBegins lines
finished_lines port before after bytes text plan says print report =
    let same : report.plan ≡ plan = same_plan bytes report.plan plan report.says says in
    let in_lines : report.plan.print ≡ Lines = ap (λ (p : Content). p.print) same ∙ print in
    let reports = report.reports in (
      lines_report report.plan.names [] reports.items,
      reports.prints ∙ ap (λ (form : Print). report_text form report.plan.names [] reports.items) in_lines,
      finishes (cluster_of report.plan) report.plan.names reports.items (reports.also.strictly refl).1,
    )
