-- The last line of the report of a calm schedule.
use Rattle.std.proofs.Common.{◌≡◌, ℕ, true, List, [], ◌∷◌, ◌++◌, refl, sym, ◌∙◌, ap, subst}
use Rattle.std.proofs.lemmas.List.{append_assoc}
use Rattle.std.specs.Prelude.{count_by}
use Rattle.acc_ports.specs.declared.disk.Disk.{Ghosts}
use Rattle.acc_message.specs.declared.item.Item.{Item}
use Rattle.acc_message.specs.Items.{notes_of}
use Rattle.acc_schedule.specs.declared.plan.Print.{Print}
use Rattle.acc_schedule.specs.declared.plan.Print.TheVariants.{Lines, Summary}
use Rattle.acc_schedule.specs.Content.{Content}
use Rattle.acc_schedule.specs.Document.{Means}
use Rattle.acc_schedule.proofs.AnswerFacts.{same_plan}
use Rattle.acc_schedule_runs.specs.StrictSchedules.{ObeysStrictly}
use Rattle.acc_report_line.specs.declared.line.Line.{Line}
use Rattle.acc_report_line.specs.declared.line.Line.TheVariants.{End}
use Rattle.acc_report_line.specs.Texts.{full_text, lines_text}
use Rattle.acc_report.specs.Report.{is_begin, is_reply, last_line, decided_line, lines_of, report_text}
use Rattle.acc_command_alone.specs.Command.{IsReport, OverDisks}

lines_append : (lines more : List Line) → lines_text (lines ++ more) ≡ lines_text lines ++ lines_text more
lines_append [] more = refl
lines_append (l ∷ lines) more = ap (λ rest. full_text l ++ rest) (lines_append lines more) ∙ sym (append_assoc (full_text l) (lines_text lines) (lines_text more))

-- a report ends with its last line
pub ends_with_last : (print : Print) (names : List (List ℕ)) (items : List Item)
    → (front : List ℕ) × (report_text print names [] items ≡ front ++ lines_text (last_line (notes_of items) ∷ []))
ends_with_last Lines names items = (lines_text (lines_of names [] items), lines_append (lines_of names [] items) (last_line (notes_of items) ∷ []))
ends_with_last Summary names items =
    (lines_text (decided_line (notes_of items) ∷ []), lines_append (decided_line (notes_of items) ∷ []) (last_line (notes_of items) ∷ []))

module _ {D : Type 0} (port : Ghosts D) (before after : List (ℕ × D)) (bytes text : List ℕ) (plan : Content) where
  pub none_open : ((items : List Item) → ObeysStrictly plan items → last_line (notes_of items) ≡ End (count_by is_begin (notes_of items)) (count_by is_reply (notes_of items)) 0)
      → Means bytes plan → IsReport (OverDisks port true before after) bytes text
      → (begun : ℕ) × (replied : ℕ) × (front : List ℕ) × (text ≡ front ++ lines_text (End begun replied 0 ∷ []))
  none_open calm says report =
      let same : report.plan ≡ plan = same_plan bytes report.plan plan report.says says in
      let items : List Item = report.reports.items in
      let strictly : ObeysStrictly plan items = subst (λ p. ObeysStrictly p items) same (report.reports.also.strictly refl) in
      let last = ends_with_last report.plan.print report.plan.names items in (
        count_by is_begin (notes_of items),
        count_by is_reply (notes_of items),
        last.0,
        report.reports.prints ∙ last.1 ∙ ap (λ (line : Line). last.0 ++ lines_text (line ∷ [])) (calm items strictly),
      )
