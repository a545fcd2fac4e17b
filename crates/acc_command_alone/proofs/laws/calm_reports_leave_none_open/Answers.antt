-- The law of calm plans, in the report's words.
use Rattle.acc_command_alone.proofs.CalmReports.{none_open}
use Rattle.acc_command_alone.proofs.laws.calm_reports_leave_none_open.Goals as goal

pub returns : goal.returns
returns g c = λ before after bytes text plan is says calm report.
    none_open g.M.D.Disk before after bytes text plan
    (λ items strictly. c.plans_run_safely_over_strict_disks.ensures.none_open plan items is calm strictly) says report
