-- The laws of strict runs and limits fix it.
use Rattle.std.proofs.Common.{true, refl}
use Rattle.acc_schedule_runs.specs.StrictSchedules.{ObeysStrictly}
use Rattle.acc_schedule_runs.specs.StrictFronts.{StrictLimitEnds}
use Rattle.acc_command_alone.specs.Command.{OverDisks}
use Rattle.acc_command_alone.proofs.StrictReports.{one_report}
use Rattle.acc_command_alone.proofs.laws.one_report_over_strict_disks.Goals as goal

pub returns : goal.returns
returns g c = λ before after other_before other_after bytes text other_text status other a b.
    one_report ObeysStrictly StrictLimitEnds
    (record { items = c.one_strict_run.ensures.items; limit = c.one_limit_over_strict_disks.ensures.one; not_both = c.a_limit_or_the_whole_over_strict_disks.ensures.not_both })
    (OverDisks g.M.D.Disk true before after) (OverDisks g.M.D.Disk true other_before other_after)
    (record { runs = λ plan items also. also.strictly refl; stops = λ plan items which number also. also.1 refl })
    (record { runs = λ plan items also. also.strictly refl; stops = λ plan items which number also. also.1 refl }) bytes text other_text status other a b
