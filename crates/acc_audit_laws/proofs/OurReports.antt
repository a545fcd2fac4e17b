-- The judge says yes of the reports of runs, and nothing else.
use Rattle.std.proofs.Common.{◌≡◌, ℕ, ◌-◌, ◌≤◌, List, [], length, refl, sym, ap, subst, ◌∙◌, arith}
use Rattle.acc_txn.specs.declared.parts.BodyParts.{BodyParts}
use Rattle.acc_message.specs.declared.item.Item.{Item}
use Rattle.acc_schedule.specs.Content.{Content}
use Rattle.acc_schedule.specs.Plan.{IsPlan}
use Rattle.acc_schedule.specs.declared.plan.Print.TheVariants.{Lines}
use Rattle.acc_schedule.proofs.AnswerFacts.{same_plan}
use Rattle.acc_report.specs.Report.{report_lines, report_text}
use Rattle.acc_report_line.specs.declared.line.Line.{Line}
use Rattle.acc_report_line.specs.Forms.{HaveForms}
use Rattle.acc_report_laws.specs.Told.{CanBeTold}
use Rattle.acc_report_reader.specs.Report.{IsReport}
use Rattle.acc_audit.specs.declared.judgement.Judgement.{Judgement}
use Rattle.acc_audit.specs.declared.judgement.Judgement.TheVariants.{Yes, No as Not}
use Rattle.acc_audit.specs.Cases.{IsDueOn, IsJudged, MeansCase}
use Rattle.acc_audit.specs.Rules.{KeepsRules}
use Rattle.acc_audit.proofs.CaseFacts.{case_no_cause, same_case}
use Rattle.acc_command_alone.specs.Command.{Over}
use Rattle.acc_command_alone.specs.Ends.{document_limit}
use Rattle.acc_command_alone.specs.Judging.{IsAuditDue, judgement_text, status_of}
use Rattle.acc_command_alone.specs.Lines.{line}
use Rattle.acc_command_alone.specs.declared.status.Status.{Status}
use Rattle.acc_command_alone.specs.declared.status.Status.TheVariants.{BadInput, Done, Limit, No, OutOfMemory, ReadFault, Usage, WriteFault}
use Rattle.acc_audit_laws.specs.Made.{CasesGetYes, GetsYes, ReportsInLines, WritesLines, yes_text}
use Rattle.acc_audit_laws.proofs.MadeCases.{made_case}

-- a case that breaks no rule gets yes and nothing else
module _ (bytes : List ℕ) (names : List (List ℕ)) (bodies : List BodyParts) (lines : List Line) (means : MeansCase bytes names bodies lines) (keeps : KeepsRules names bodies lines) where
  judged_so : (judgement : Judgement) (others : List (List ℕ)) (other_bodies : List BodyParts) (other_lines : List Line) → names ≡ others → bodies ≡ other_bodies → lines ≡ other_lines
      → IsJudged judgement others other_bodies other_lines → judgement ≡ Yes (length lines)
  judged_so (Yes count) others other_bodies other_lines a b l judged = ap Yes (judged.1 ∙ ap length (sym l))
  judged_so (Not place rule) others other_bodies other_lines a b l judged =
      absurd (keeps_too (place - 1) rule judged.1.broken)
    where
      keeps_too : KeepsRules others other_bodies other_lines
      keeps_too =
          subst (λ ls. KeepsRules others other_bodies ls) l (subst (λ bs. KeepsRules others bs lines) b (subst (λ ns. KeepsRules ns bodies lines) a keeps))

  says_yes : (judgement : Judgement) → IsDueOn bytes judgement → judgement ≡ Yes (length lines)
  says_yes judgement due =
      let same = same_case bytes due.names names due.bodies bodies due.lines lines due.means means in
      judged_so judgement due.names due.bodies due.lines (sym same.0) (sym same.1) (sym same.2) due.judged

  not_no : (judgement : Judgement) → judgement ≡ Yes (length lines) → No ≡ status_of judgement → ⊥
  not_no judgement is ends = absurd_status (ends ∙ ap status_of is)
    where
      absurd_status : No ≡ Done → ⊥
      absurd_status e = cc

  alone : (status : Status) (text : List ℕ) → length bytes ≤ document_limit → IsAuditDue bytes status text → (status ≡ Done) × (text ≡ yes_text lines)
  alone Done text short due =
      (refl, due.1.prints ∙ ap (λ (judgement : Judgement). line (judgement_text judgement)) (says_yes due.1.judgement due.1.due))
  alone No text short due = absurd (not_no due.1.judgement (says_yes due.1.judgement due.1.due) due.1.ends)
  alone BadInput text short due = absurd (case_no_cause bytes names bodies lines due.1.kind due.1.path due.1.detail due.1.at means due.1.cause)
  alone Limit text short due = absurd (omega (arith, short, due.0))
  alone Usage text short due = absurd due
  alone ReadFault text short due = absurd due
  alone WriteFault text short due = absurd due
  alone OutOfMemory text short due = absurd due

  pub case_gets_yes : (report : List ℕ) → IsReport report lines → length bytes ≤ document_limit → GetsYes report bytes
  case_gets_yes report are short =
      record {
        lines = lines;
        are = are;
        due = (
          short,
          record {
            judgement = Yes (length lines);
            due = record { names = names; bodies = bodies; lines = lines; means = means; judged = (keeps, refl) };
            ends = refl;
            prints = refl;
          },
        );
        alone = λ status text due. alone status text short due;
      }

-- of a run that can be told, the report in lines that a document asks for
module _ (forms : (plan : Content) (items : List Item) → CanBeTold plan items → HaveForms (report_lines Lines plan.names [] items))
    (passed : (plan : Content) (items : List Item) → CanBeTold plan items → KeepsRules plan.names plan.bodies (report_lines Lines plan.names [] items)) where
  pub report_gets_yes : (document text : List ℕ) (plan : Content) (items : List Item) → CanBeTold plan items → ReportsInLines document text plan items
      → CasesGetYes document text
  report_gets_yes document text plan items told reports bytes made short =
      let lines : List Line = report_lines Lines plan.names [] items in
      let are : IsReport text lines = (forms plan items told, sym (reports.prints ∙ ap (λ print. report_text print plan.names [] items) reports.in_lines)) in
      case_gets_yes bytes plan.names plan.bodies lines (made_case document text bytes plan lines reports.says are made) (passed plan items told) text are short

-- ---- in the words of the command

pub in_lines_of : (over : Over) (document text : List ℕ) (w : WritesLines over document text) → ReportsInLines document text w.report.plan w.report.reports.items
in_lines_of over document text w =
    let same : w.report.plan ≡ w.plan = same_plan document w.report.plan w.plan w.report.says w.says in
    record {
      is_plan = subst IsPlan (sym same) w.is_plan;
      says = w.report.says;
      in_lines = ap (λ (p : Content). p.print) same ∙ w.in_lines;
      within = w.report.reports.within;
      prints = w.report.reports.prints;
    }
