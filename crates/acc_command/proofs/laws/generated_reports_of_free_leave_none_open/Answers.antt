-- The laws of generated documents and of served items, in the report's words.
use Rattle.std.proofs.Common.{◌≤◌, List, ℕ, sym, subst}
use Rattle.acc_schedule.specs.Document.{Means}
use Rattle.acc_schedule_runs.specs.Schedules.{cluster_of}
use Rattle.acc_generator.specs.Plan.{plan, steps}
use Rattle.acc_command_alone.specs.Counts.{AreAnswered, answered_text}
use Rattle.acc_command_alone.proofs.GeneratedFacts.{steps_end, steps_begin_once, steps_begin_all, text_ends}
use Rattle.acc_command.proofs.FreeReports.{quiet_served, free_ends_alike}
use Rattle.acc_command.proofs.FreeCounts.{free_answered, goes_forward}
use Rattle.acc_command.proofs.laws.generated_reports_of_free_leave_none_open.Goals as goal

pub returns : goal.returns
returns g c = λ before after words seed txns bytes text line made due.
    let few : txns ≤ 2000 = subst (λ n. n ≤ 2000) (sym line.txns_is) line.txns_spelled.below in
    let says : Means bytes (plan seed txns) = subst (λ (b : List ℕ). Means b (plan seed txns)) (sym made) (c.generated_documents_are_accepted.ensures seed txns few) in
    let is = c.generated_plans_keep_the_rules.ensures seed txns few in
    let forward = goes_forward (steps txns) (steps_end txns) in
    free_ends_alike g.M.D.Disk before after bytes text (plan seed txns) (answered_text txns)
    (λ items served up.
    let quiet = quiet_served (plan seed txns) items served up forward.0 forward.1 in
    text_ends seed txns items
    (subst (λ n. AreAnswered n items) (steps_begin_all txns)
    (free_answered (plan seed txns) items (steps_begin_once txns) served up quiet (c.served_commands_are_taken.ensures (plan seed txns) items is served up forward.0)
    (c.replies_are_few.ensures (cluster_of (plan seed txns)) items served.free.run) (c.served_runs_are_answered.ensures.none_open (plan seed txns) items is served quiet))))
    says due.1
