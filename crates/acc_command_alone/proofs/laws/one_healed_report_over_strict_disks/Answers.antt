-- The laws of strict healings and their limits fix it.
use Rattle.std.proofs.Common.{true, refl}
use Rattle.acc_heal_laws.specs.HealingFronts.{StrictLimitEndsWithHealing}
use Rattle.acc_heal.specs.Healed.{HealsStrictlyTo}
use Rattle.acc_command_alone.specs.Healing.{OverHealing}
use Rattle.acc_command_alone.proofs.HealingFacts.{one_healed, healed_or_stopped}
use Rattle.acc_command_alone.proofs.StrictReports.{one_report}
use Rattle.acc_command_alone.proofs.laws.one_healed_report_over_strict_disks.Goals as goal

pub returns : goal.returns
returns g c = λ before after other_before other_after bytes text other_text status other a b.
    one_report HealsStrictlyTo StrictLimitEndsWithHealing
    (record {
      items = one_healed c.one_healing.ensures.strict;
      limit = c.one_healing_limit_over_strict_disks.ensures.one;
      not_both = healed_or_stopped c.one_healing_limit_over_strict_disks.ensures.either;
    }) (OverHealing g.M.D.Disk true before after) (OverHealing g.M.D.Disk true other_before other_after)
    (record { runs = λ plan items also. (also.strictly refl).0; stops = λ plan items which number also. also.strictly refl })
    (record { runs = λ plan items also. (also.strictly refl).0; stops = λ plan items which number also. also.strictly refl }) bytes text other_text status other a b
