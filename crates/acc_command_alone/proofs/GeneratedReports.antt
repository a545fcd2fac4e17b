-- The last line of the report of a generated document.
use Rattle.std.proofs.Common.{◌≡◌, ℕ, true, List, [], ◌++◌, refl, ◌∙◌, ap, subst}
use Rattle.acc_ports.specs.declared.disk.Disk.{Ghosts}
use Rattle.acc_message.specs.declared.item.Item.{Item}
use Rattle.acc_schedule.specs.Content.{Content}
use Rattle.acc_schedule.specs.Document.{Means}
use Rattle.acc_schedule.proofs.AnswerFacts.{same_plan}
use Rattle.acc_schedule_runs.specs.StrictSchedules.{ObeysStrictly}
use Rattle.acc_report.specs.Report.{report_text}
use Rattle.acc_command_alone.specs.Command.{IsReport, OverDisks}

module _ {D : Type 0} (port : Ghosts D) (before after : List (ℕ × D)) (bytes text : List ℕ) (plan : Content) where
  -- what each report of a plan over strict disks ends with, that of its document ends with
  pub ends_alike : (end : List ℕ)
      → ((items : List Item) → ObeysStrictly plan items → (front : List ℕ) × (report_text plan.print plan.names [] items ≡ front ++ end))
      → Means bytes plan → IsReport (OverDisks port true before after) bytes text → (front : List ℕ) × (text ≡ front ++ end)
  ends_alike end each says report =
      let same : report.plan ≡ plan = same_plan bytes report.plan plan report.says says in
      let items : List Item = report.reports.items in
      let found = each items (subst (λ p. ObeysStrictly p items) same (report.reports.also.strictly refl)) in
      (found.0, report.reports.prints ∙ ap (λ (p : Content). report_text p.print p.names [] items) same ∙ found.1)
