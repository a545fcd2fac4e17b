-- Every run of a plan is safe, and a calm one is answered.
use Rattle.std.proofs.Common.{◌≡◌, List, count_by}
use Rattle.acc_message.specs.declared.item.Item.{Item}
use Rattle.acc_message.specs.Items.{notes_of}
use Rattle.acc_message.specs.Run.{Cluster, IsRun}
use Rattle.acc_safety.specs.Agreement.{Agreement}
use Rattle.acc_safety.specs.Coverage.{Coverage}
use Rattle.acc_safety.specs.SerialOutcomes.{SerialOutcomes}
use Rattle.acc_safety.specs.Calm.{IsCalm, EachBegunIsAnswered}
use Rattle.acc_safety.specs.Valid.{IsValidCluster}
use Rattle.acc_report.specs.Report.{is_begin, is_reply, last_line}
use Rattle.acc_report_line.specs.declared.line.Line.TheVariants.{End}
use Rattle.acc_schedule.specs.Content.{Content}
use Rattle.acc_schedule.specs.Plan.{IsPlan}
use Rattle.acc_safety_laws.proofs.EveryRun.{agreement_holds, coverage_holds, serial_holds}
use Rattle.acc_schedule_runs.specs.Moves.{Answers}
use Rattle.acc_schedule_runs.specs.Schedules.{cluster_of, Obeys}
use Rattle.acc_schedule_runs.specs.Laws.{NeverFails, EndsWithDrain}
use Rattle.acc_schedule_runs.proofs.GivesRuns.{obeys_a_run}
use Rattle.acc_schedule_runs.proofs.Drained.{drains_leave_nothing}
use Rattle.acc_plan_laws.proofs.PlansValid.{plan_is_valid}
use Rattle.acc_plan_laws.proofs.AllReplied.{none_is_open}

-- the law of calm runs
abbrev pub CalmIsAnswered : Type 0
CalmIsAnswered = (cluster : Cluster) (items : List Item) → IsValidCluster cluster → IsRun cluster items → IsCalm items → EachBegunIsAnswered items

module _ (plan : Content) (answers : Answers) (items : List Item) (h : IsPlan plan) where
  module _ (obeys : Obeys plan answers items) where
    pub plans_agree : Agreement items
    plans_agree = agreement_holds (cluster_of plan) items (plan_is_valid plan h) (obeys_a_run plan answers items h obeys)

    pub plans_cover : Coverage (cluster_of plan) items
    plans_cover = coverage_holds (cluster_of plan) items (plan_is_valid plan h) (obeys_a_run plan answers items h obeys)

    pub plans_are_serial : SerialOutcomes (cluster_of plan) items
    plans_are_serial = serial_holds (cluster_of plan) items (plan_is_valid plan h) (obeys_a_run plan answers items h obeys)

  module _ (calm : CalmIsAnswered) (never : NeverFails answers) (ends : EndsWithDrain plan.steps) (obeys : Obeys plan answers items) where
    pub plans_are_answered : EachBegunIsAnswered items
    plans_are_answered =
        calm (cluster_of plan) items (plan_is_valid plan h) (obeys_a_run plan answers items h obeys)
        (drains_leave_nothing plan answers items never ends obeys)

    pub none_stays_open : last_line (notes_of items) ≡ End (count_by is_begin (notes_of items)) (count_by is_reply (notes_of items)) 0
    none_stays_open = none_is_open (cluster_of plan) items (obeys_a_run plan answers items h obeys).stands plans_are_answered
