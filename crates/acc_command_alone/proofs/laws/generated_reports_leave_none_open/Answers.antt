-- The laws of generated documents and of their runs, in the report's words.
use Rattle.std.proofs.Common.{◌≤◌, List, ℕ, sym, subst}
use Rattle.acc_schedule.specs.Document.{Means}
use Rattle.acc_generator.specs.Plan.{plan}
use Rattle.acc_command_alone.specs.Counts.{answered_text}
use Rattle.acc_command_alone.proofs.GeneratedReports.{ends_alike}
use Rattle.acc_command_alone.proofs.laws.generated_reports_leave_none_open.Goals as goal

pub returns : goal.returns
returns g c = λ before after words seed txns bytes text line made due.
    let few : txns ≤ 2000 = subst (λ n. n ≤ 2000) (sym line.txns_is) line.txns_spelled.below in
    let says : Means bytes (plan seed txns) = subst (λ (b : List ℕ). Means b (plan seed txns)) (sym made) (c.generated_documents_are_accepted.ensures seed txns few) in
    ends_alike g.M.D.Disk before after bytes text (plan seed txns) (answered_text txns)
    (λ items strictly. c.generated_documents_are_answered.ensures.report seed txns items few strictly) says due.1
