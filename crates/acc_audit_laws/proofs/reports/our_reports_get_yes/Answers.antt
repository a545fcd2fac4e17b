-- The laws of runs that can be told, for each command.
use Rattle.std.proofs.Common.{ℕ, List, length, subst}
use Rattle.acc_message.specs.declared.item.Item.{Item}
use Rattle.acc_schedule.specs.Content.{Content}
use Rattle.acc_schedule.specs.declared.plan.Print.TheVariants.{Lines}
use Rattle.acc_schedule.specs.declared.plan.Step.{Step}
use Rattle.acc_schedule_runs.specs.Moves.{Answers}
use Rattle.acc_schedule_runs.specs.Schedules.{Obeys}
use Rattle.acc_schedule_runs.specs.Situations.{Situation}
use Rattle.acc_heal_laws.proofs.GoesOn.{goes_follows}
use Rattle.acc_heal_laws.specs.Healings.{beginning, IsHealing}
use Rattle.acc_audit_laws.specs.Made.{CasesGetYes, ReportsInLines}
use Rattle.acc_audit_laws.proofs.HealingSteps.{healing_tells}
use Rattle.acc_audit_laws.proofs.OurReports.{in_lines_of, report_gets_yes}
use Rattle.acc_audit_laws.proofs.reports.our_reports_get_yes.Goals as goal

pub returns : goal.returns
returns g c =
    let passes =
    report_gets_yes (λ plan items told. c.reports_of_runs_are_read_again.ensures.forms plan items Lines told)
    (λ plan items told. c.runs_are_passed.ensures.told plan items told) in
    let numbered = λ (document text : List ℕ) (plan : Content) (items : List Item) (reports : ReportsInLines document text plan items).
    c.numbers_of_documents_fit.ensures document plan reports.is_plan reports.says in
    let schedule : (document text : List ℕ) (plan : Content) (answers : Answers) (items : List Item) → Obeys plan answers items
    → ReportsInLines document text plan items → CasesGetYes document text =
    λ document text plan answers items obeys reports.
    passes document text plan items
    (c.runs_can_be_told.ensures.schedule plan answers items reports.is_plan (numbered document text plan items reports) obeys reports.within) reports in
    let healing : (document text : List ℕ) (plan : Content) (answers : Answers) (steps : List Step) (between last : Situation)
    → IsHealing plan answers steps between last → ReportsInLines document text plan last.own → CasesGetYes document text =
    λ document text plan answers steps between last heals reports.
    let steps_told = healing_tells plan answers reports.is_plan (c.plans_are_valid.ensures plan reports.is_plan) steps between last heals in
    passes document text plan last.own
    (c.runs_can_be_told.ensures.more plan answers steps between last reports.is_plan (numbered document text plan last.own reports) heals.follows
    (goes_follows plan answers (length plan.steps) steps (beginning plan between) (record { stage = heals.heals.stage; at = last }) heals.heals.goes)
    steps_told.known steps_told.numbers steps_told.short reports.within) reports in
    record {
      schedule = schedule;
      healing = healing;
      free = λ document text plan items is_free reports.
          passes document text plan items
          (c.runs_can_be_told.ensures.free plan items reports.is_plan (numbered document text plan items reports) is_free reports.within) reports;
      run = λ strict before after document text writes.
          let report = writes.report in
          schedule document text report.plan report.reports.also.ran.answers report.reports.items report.reports.also.ran.obeys (in_lines_of _ document text writes);
      heal = λ strict before after document text writes.
          let report = writes.report in
          let healed = report.reports.also.ran in
          let heals = healed.heals in
          healing document text report.plan healed.answers heals.steps heals.between heals.last heals.healing
          (subst (ReportsInLines document text report.plan) heals.items_are (in_lines_of _ document text writes));
    }
